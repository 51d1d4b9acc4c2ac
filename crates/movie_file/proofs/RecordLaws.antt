-- A record that is read is the record that was written, and what was written is read again.
use Rattle.std.proofs.Common.{◌≡◌, ℕ, ◌+◌, ◌*◌, ◌<◌, ◌≤◌, Bool, false, cond, List, [], ◌∷◌, ◌++◌}
use Rattle.std.proofs.Common.{length, get_or, take, drop, set, Option, Some, None, refl, sym, ap}
use Rattle.std.proofs.Common.{◌∙◌, append_assoc, arith}
use Rattle.std.specs.Prelude.{◌&&◌, nat_eq, nat_lt, IfSome, IsTrue}
use Rattle.std.proofs.Math.Seq.{take-add}
use Rattle.std.proofs.lemmas.Bool.{eqb-true, ltb-false, and_parts, and_right, false_from_ne_true}
use Rattle.std.proofs.lemmas.Option.{cond_some}
use Rattle.std.proofs.lemmas.List.{take_at, drop_at, set_at, take_all, take_more, get_or-drop}
use Rattle.std.proofs.lemmas.List.{length-append, length-take, length-drop}
use borrow.Rule.Slice.PartMut.{put_mid}
use Rattle.mos_cpu.specs.Registers.{Registers, is_status}
use Rattle.riot_map.specs.declared.fields.RiotFields.{RiotFields}
use Rattle.tia_core.specs.declared.fields.TiaFields.{TiaFields}
use Rattle.vcs_machine.proofs.StateLemmas.{clock_of, clock-thirds}
use Rattle.vcs_machine.specs.declared.fields.StateFields.{StateFields}
use Rattle.vcs_machine.specs.States.{is_state}
use Rattle.movie_file.specs.Format.{state_length}
use Rattle.record_table.specs.Numbers.{bytes_of}
use Rattle.mos_cpu.specs.Registers.{processor_numbers}
use Rattle.tia_core.specs.Numbers.{tia_numbers}
use Rattle.movie_file.specs.Record.{record_of, recorded_state, riot_bytes}
use Rattle.movie_file.specs.RecordNumbers.{fields_at, cpu_part, riot_part, tia_part, cpu_length, riot_length, tia_length, tia_place, bank_place}
use Rattle.movie_file.specs.RecordNumbers.{cpu_at, riot_at, tia_at}
use Rattle.movie_file.specs.Movie.{IsState}
use Rattle.movie_file.proofs.ByteLemmas.{IsBytes, IsBytes-take, IsBytes-drop}
use Rattle.movie_file.proofs.RecordParts.{cpu_back, riot_back, tia_back, cpu_again, riot_again}
use Rattle.movie_file.proofs.RecordParts.{tia_again, length-riot_bytes}

-- ---- a record that is read is written again

-- three parts and a byte, where each part equals another
pub same_parts : (c d r s t u : List ℕ) (x : ℕ) → c ≡ d → r ≡ s → t ≡ u → c ++ r ++ t ++ x ∷ [] ≡ d ++ s ++ u ++ x ∷ []
same_parts c d r s t u x cpu riot tia = cc

module _ (b : List ℕ) (fits : IsBytes b) (len : length b ≡ state_length) where
  -- a record is its parts, each of which has its length and is bytes
  parts_are : cpu_part b ++ riot_part b ++ tia_part b ++ get_or b bank_place 0 ∷ [] ≡ b
  parts_are =
      rw (← take-add cpu_length riot_length b, ← take-add tia_place tia_length b, ← take_more b bank_place 0 (omega arith))
      (take_all state_length b (omega arith))

  part_fits : (a n : ℕ) → IsBytes (take n (drop a b))
  part_fits a n = IsBytes-take n (drop a b) (IsBytes-drop a b fits)

  length-part : (a n : ℕ) → a + n ≤ state_length → length (take n (drop a b)) ≡ n
  length-part a n within = omega (arith, length-take n (drop a b), length-drop a b)

  record_back : record_of (fields_at b) ≡ b
  unfolding record_of
  record_back =
      same_parts _ _ _ _ _ _ _ (cpu_back (cpu_part b) (part_fits 0 cpu_length) (length-part 0 cpu_length (omega arith)))
      (riot_back (riot_part b) (part_fits cpu_length riot_length) (length-part cpu_length riot_length (omega arith)))
      (tia_back (tia_part b) (part_fits tia_place tia_length) (length-part tia_place tia_length (omega arith)))
      ∙ parts_are

  lawful_at : IsTrue (is_state (fields_at b)) → IsState (fields_at b)
  lawful_at lawful =
      let ports_fit = IsBytes-drop 128 (riot_part b) (part_fits cpu_length riot_length) in
      record {
        lawful = lawful;
        pc = omega (arith, part_fits 0 cpu_length 5, part_fits 0 cpu_length 6);
        part = omega (arith, ports_fit 5, ports_fit 6);
        collisions = omega (arith, part_fits tia_place tia_length 37, part_fits tia_place tia_length 38);
        ram = omega (arith, length-take 128 (riot_part b), length-part cpu_length riot_length (omega arith));
      }

pub state_takes : (b : List ℕ) (f : StateFields) → IsBytes b → recorded_state b ≡ Some f → IsState f × (b ≡ record_of f)
unfolding recorded_state
state_takes b f fits e =
    let long = nat_eq (length b) state_length in
    let is = cond_some (long && is_state (fields_at b)) (fields_at b) f e in
    let both = and_parts long (is_state (fields_at b)) is.0 in
    let len : length b ≡ state_length = eqb-true _ _ both.0 in
    rw (← is.1) (lawful_at b fits len both.1, sym (record_back b fits len))

-- ---- a record that is written is read again

abbrev built : Registers → RiotFields → TiaFields → ℕ → StateFields
built cpu riot tia bank = record { cpu = cpu; riot = riot; tia = tia; bank = bank }

same_state : (c d : Registers) (r s : RiotFields) (t u : TiaFields) (a b : ℕ) → c ≡ d → r ≡ s → t ≡ u → a ≡ b
    → built c r t a ≡ built d s u b
same_state c d r s t u a b cpu riot tia bank = cc

-- the bytes after the processor and the RIOT
abbrev tail_of : StateFields → List ℕ
tail_of f = bytes_of tia_numbers f.tia ++ f.bank ∷ []

module _ (f : StateFields) (h : IsState f) where
  parts_of : record_of f ≡ bytes_of processor_numbers f.cpu ++ (riot_bytes f.riot ++ tail_of f)
  unfolding record_of
  parts_of = simp append_assoc

  pub length-record_of : length (record_of f) ≡ state_length
  length-record_of =
      ap length parts_of ∙ omega (arith, length-append (riot_bytes f.riot) (tail_of f), length-riot_bytes f.riot h.ram)

  riot_there : riot_part (record_of f) ≡ riot_bytes f.riot
  riot_there = ap riot_part parts_of ∙ take_at (riot_bytes f.riot) (tail_of f) riot_length (length-riot_bytes f.riot h.ram)

  tail_there : drop tia_place (record_of f) ≡ tail_of f
  tail_there = ap (drop tia_place) parts_of ∙ drop_at (riot_bytes f.riot) (tail_of f) riot_length (length-riot_bytes f.riot h.ram)

  pub fields_again : fields_at (record_of f) ≡ f
  fields_again =
      let tia = ap (λ (w : List ℕ). tia_at (take tia_length w)) tail_there in
      let last = ap (λ (w : List ℕ). get_or w tia_length 0) tail_there in
      same_state _ _ _ _ _ _ _ _ (ap (λ (w : List ℕ). cpu_at (cpu_part w)) parts_of ∙ cpu_again f.cpu h.pc)
      (ap riot_at riot_there ∙ riot_again f.riot h.ram h.part)
      (tia ∙ tia_again f.tia h.collisions (clock-thirds f h.lawful))
      (sym (get_or-drop tia_place (record_of f) tia_length 0) ∙ last)

  pub state_again : recorded_state (record_of f) ≡ Some f
  unfolding recorded_state
  state_again =
      let long = nat_eq (length (record_of f)) state_length in
      ap (λ (g : StateFields). cond (long && is_state g) (Some g) None) fields_again
      ∙ rw length-record_of (ap (λ (b : Bool). cond b (Some f) None) h.lawful)

-- what is read of a record: a state whose record it is, and nothing else
pub state_found : (b : List ℕ) (o : Option StateFields) → IsBytes b → o ≡ recorded_state b → IfSome o (λ f. IsState f × (b ≡ record_of f))
state_found b (Some f) fits e = state_takes b f fits (sym e)
state_found b None fits e = tt

pub state_only : (b : List ℕ) (o : Option StateFields) → o ≡ recorded_state b → (f : StateFields) → IsState f → b ≡ record_of f → o ≡ Some f
state_only b o exact f h is = exact ∙ ap recorded_state is ∙ state_again f h

-- ---- how a record is read

-- the parts were found, and a state has them
pub state_of_parts : (b : List ℕ) (cpu : Registers) (riot : RiotFields) (tia : TiaFields)
    (o : Option StateFields) → length b ≡ state_length
    → cpu ≡ cpu_at (cpu_part b) → riot ≡ riot_at (riot_part b) → tia ≡ tia_at (tia_part b)
    → let f = built cpu riot tia (get_or b bank_place 0) in
    o ≡ cond (is_state f) (Some f) None → o ≡ recorded_state b
unfolding recorded_state
state_of_parts b cpu riot tia o len first second third e = rw len (rw (first, second, third) at e)

unlawful : (b : List ℕ) → is_state (fields_at b) ≡ false → recorded_state b ≡ None
unfolding recorded_state
unlawful b e = rw (and_right (nat_eq (length b) state_length) _ e) refl

-- no processor has the byte of its status
pub no_cpu : (b : List ℕ) → is_status (get_or (cpu_part b) 4 0) ≡ false → recorded_state b ≡ None
unfolding is_state
no_cpu b e = unlawful b (rw e refl)

-- the beam is beyond its scanline
pub no_tia : (b : List ℕ) → nat_lt (get_or (tia_part b) 40 0) 76 ≡ false → recorded_state b ≡ None
no_tia b e = unlawful b (false_from_ne_true _ (λ lawful.
    let late : 76 ≤ get_or (tia_part b) 40 0 = ltb-false _ _ e in
    let within : 3 * get_or (tia_part b) 40 0 < 228 = clock_of (fields_at b) lawful in absurd (omega arith)))

-- ---- parts one after another

-- what is put after a beginning
pub put_after : (a k : ℕ) (prefix part rest : List ℕ) → length prefix ≡ a → put_mid a k (prefix ++ rest) part ≡ prefix ++ part ++ drop k rest
put_after a k prefix part rest len = rw (take_at prefix rest a len, drop_at prefix rest a len) (sym (append_assoc prefix part (drop k rest)))

-- three parts and a byte
pub put_all : (c r t rest : List ℕ) (old bank : ℕ)
    → length c ≡ cpu_length → length r ≡ riot_length → length t ≡ tia_length → drop tia_length (drop riot_length rest) ≡ old ∷ []
    → set (put_mid tia_place tia_length (put_mid cpu_length riot_length (c ++ rest) r) t) bank_place bank ≡ c ++ r ++ t ++ bank ∷ []
put_all c r t rest old bank cpu riot tia left =
    let prefix : length (c ++ r) ≡ tia_place = omega (arith, length-append c r) in
    let whole : length (c ++ r ++ t) ≡ bank_place = omega (arith, length-append (c ++ r) t) in
    rw (put_after cpu_length riot_length c r rest cpu, put_after tia_place tia_length (c ++ r) t (drop riot_length rest) prefix, left)
    (set_at (c ++ r ++ t) old [] bank bank_place whole)
