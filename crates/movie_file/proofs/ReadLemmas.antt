-- Reading step by step, and the reading of numbers.
use Rattle.std.proofs.Common.{◌≡◌, ℕ, ◌^◌, ◌<◌, ◌≤◌, Bool, true, false, cond, ltb, List, [], ◌∷◌, ◌++◌}
use Rattle.std.proofs.Common.{length, take, drop, Option, Some, None, Result, Ok, Err, refl, sym}
use Rattle.std.proofs.Common.{arith}
use Rattle.std.specs.Prelude.{slice_index}
use Rattle.std.specs.Option.{ok_or}
use Rattle.std.specs.Int.{Width, w16, w32, byte_len, from_be_bytes, to_be_bytes}
use Rattle.std.proofs.lemmas.Bool.{ltb-false, le-ltb}
use Rattle.std.proofs.lemmas.List.{take_at, drop_at, take-append-drop, length-append, length-take}
use Rattle.std.proofs.lemmas.Nat.{be_bytes_2, be_bytes_4, from_be_bytes-to_be_bytes_2}
use Rattle.std.proofs.lemmas.Nat.{from_be_bytes-to_be_bytes_4}
use Rattle.movie_file.specs.declared.error.MovieError.{MovieError}
use Rattle.movie_file.specs.declared.error.MovieError.TheVariants.{Short}
use Rattle.movie_file.specs.Reading.{◌>>=◌, byte_at, number_at}
use Rattle.movie_file.proofs.ByteLemmas.{IsBytes, IsBytes-take, IsBytes-drop}

pub bind_ok : {A B : Type 0} (r : Result A MovieError) (f : A → Result B MovieError) (y : B) → (r >>= f) ≡ Ok y → (x : A) × (r ≡ Ok x) × (f x ≡ Ok y)
bind_ok (Ok x) f y e = (x, refl, e)
bind_ok (Err d) f y e = absurd cc

-- a test that did not fail
pub guard_short : {A : Type 0} (b : Bool) (d : MovieError) (x y : A) → cond b (Err d) (Ok x) ≡ Ok y → (b ≡ false) × (x ≡ y)
guard_short true d x y e = absurd cc
guard_short false d x y e = (refl, cc)

-- a test that was passed
pub guard_then : {A : Type 0} (b : Bool) (d : MovieError) (r : Result A MovieError) (y : A) → cond b r (Err d) ≡ Ok y → (b ≡ true) × (r ≡ Ok y)
guard_then true d r y e = (refl, e)
guard_then false d r y e = absurd cc

pub some_ok : {A : Type 0} (o : Option A) (d : MovieError) (y : A) → ok_or o d ≡ Ok y → o ≡ Some y
some_ok (Some x) d y e = cc
some_ok None d y e = absurd cc

abbrev pub done : {A : Type 0} → A → Result A MovieError
done x = Ok x

pub ok_is : {A : Type 0} (x y : A) → done x ≡ done y → x ≡ y
ok_is x y e = cc

-- what was taken from the prefix
pub record Takes (bytes text rest : List ℕ) : Type 0 where
  pub parts : bytes ≡ text ++ rest
  pub rest_fits : IsBytes rest

-- ---- a byte

-- a byte that is there is read
pub byte_there : (bytes : List ℕ) → 1 ≤ length bytes → byte_at bytes ≡ Ok (slice_index bytes 0, drop 1 bytes)
byte_there [] long = absurd (omega arith)
byte_there (byte ∷ rest) long = refl

pub byte_takes : (bytes : List ℕ) (x : ℕ × List ℕ) → IsBytes bytes → byte_at bytes ≡ Ok x → Takes bytes (x.0 ∷ []) x.1
byte_takes [] x fits e = absurd cc
byte_takes (byte ∷ rest) x fits e = rw (← ok_is (byte, rest) x e) (record { parts = refl; rest_fits = IsBytes-drop 1 (byte ∷ rest) fits })

-- ---- numbers

pub record IsWide (w : Width) (limit : ℕ) : Type 0 where
  pub len : (n : ℕ) → length (to_be_bytes w n) ≡ byte_len w
  pub back : (bytes : List ℕ) → length bytes ≡ byte_len w → IsBytes bytes → to_be_bytes w (from_be_bytes w bytes) ≡ bytes
  pub again : (n : ℕ) → n < limit → from_be_bytes w (to_be_bytes w n) ≡ n

pub wide16 : IsWide w16 (2 ^ 16)
wide16 = record { len = λ n. refl; back = λ bytes len fits. be_bytes_2 bytes _ len fits refl; again = from_be_bytes-to_be_bytes_2 }

pub wide32 : IsWide w32 (2 ^ 32)
wide32 = record { len = λ n. refl; back = λ bytes len fits. be_bytes_4 bytes _ len fits refl; again = from_be_bytes-to_be_bytes_4 }

pub number_takes : {w : Width} {limit : ℕ} → IsWide w limit → (bytes : List ℕ) (x : ℕ × List ℕ) → IsBytes bytes → number_at w bytes ≡ Ok x
    → Takes bytes (to_be_bytes w x.0) x.1
number_takes {w} wide bytes x fits e =
    let n = byte_len w in
    let g = guard_short (ltb (length bytes) n) Short (from_be_bytes w (take n bytes), drop n bytes) x e in
    let long : n ≤ length bytes = ltb-false _ _ g.0 in
    let back = wide.back (take n bytes) (omega (arith, length-take n bytes)) (IsBytes-take n bytes fits) in
    rw (← g.1) (record { parts = rw back (sym (take-append-drop n bytes)); rest_fits = IsBytes-drop n bytes fits })

pub number_again : {w : Width} {limit : ℕ} → IsWide w limit → (n : ℕ) (rest : List ℕ) → n < limit → number_at w (to_be_bytes w n ++ rest) ≡ Ok (n, rest)
number_again {w} wide n rest lt =
    let len = wide.len n in
    let long : ltb (length (to_be_bytes w n ++ rest)) (byte_len w) ≡ false = le-ltb _ _ (omega (arith, length-append (to_be_bytes w n) rest)) in
    rw (long, take_at (to_be_bytes w n) rest (byte_len w) len, drop_at (to_be_bytes w n) rest (byte_len w) len, wide.again n lt) refl
