-- Where the parse of a command finds no mistake, what was found for a number is in its range.
use Rattle.std.proofs.Common.{◌≡◌, ◌||◌, ◌<◌, ◌==◌, ◌++◌, ℕ, Bool, true, false, zero}
use Rattle.std.proofs.Common.{suc, cond, drop, length, List, [], ◌∷◌, Option, Some, None}
use Rattle.std.proofs.Common.{if◌then◌else◌, is_some, sym, subst, refl, unwrap_or}
use Rattle.std.proofs.Common.{arith}
use Rattle.std.specs.Prelude.{find, fold, pos, slice_get, encode_utf8}
use Rattle.std.specs.Option.{option_map_or}
use Rattle.std.specs.Str.{bytes_eq, chars}
use Rattle.std.specs.Str.Parse.{IsNumeral, starts_with_minus, without_leading_plus}
use Rattle.std.proofs.lemmas.Bool.{ne_eqb}
use Rattle.std.proofs.lemmas.Int.{ints}
use Rattle.std.proofs.lemmas.Slice.Eq.{bytes_eq-Decides}
use Rattle.clap.specs.Words.{Row, Rule, Shape, Text}
use Rattle.clap.specs.Walk.{Held, Names, Outcome, Step, Waiting, Walk, action_of, after_flag}
use Rattle.clap.specs.Walk.{after_step, arg_by_id, arg_by_long, arg_by_short, at_row}
use Rattle.clap.specs.Walk.{attached_value, bundle, bundle_met, bundle_step, done}
use Rattle.clap.specs.Walk.{flag_met, has_row, idle, is_empty, long_met, long_or_other}
use Rattle.clap.specs.Walk.{option, option_met}
use Rattle.clap.specs.Walk.{option_word, plain, plain_word, positional, positional_held, reacted}
use Rattle.clap.specs.Walk.{reading_by, settled, settled_rows, short_met, short_or_plain}
use Rattle.clap.specs.Walk.{subcommand_or_other}
use Rattle.clap.specs.Walk.{takes_values, to_positional, used, used_as, used_by_id}
use Rattle.clap.specs.Walk.{values_or_missing, walked, walked_from, with_count, with_default}
use Rattle.clap.specs.Walk.{with_values, without, default_rows, word_met}
use Rattle.clap.specs.declared.error.ErrorKind.TheVariants as kind
use Rattle.clap.specs.Faults.{bundle_fault, bundle_step_fault, default_fault}
use Rattle.clap.specs.Faults.{defaults_fault, flag_word_fault, flags_fault, given_default_fault}
use Rattle.clap.specs.Faults.{long_fault, option_fault, other_fault, positional_fault, react_fault}
use Rattle.clap.specs.Faults.{settle_fault, short_fault, step_fault, stray_fault, turn_fault}
use Rattle.clap.specs.Faults.{use_fault, values_fault, walk_fault, word_fault}
use Rattle.clap.specs.Kinds.{Kinds, or_else, request_kinds, value_kinds, values_kinds}
use Rattle.clap.specs.Values.{IsSignedIn, refused_kind}
use Rattle.clap.specs.declared.error.ErrorKind.{ErrorKind}
use Rattle.clap.specs.Lexer.{short_of, without_minus}
use Rattle.clap.specs.ValueTests.{accepts}
use Rattle.clap.specs.declared.builder.action.ArgAction.{ArgAction}
use Rattle.clap.specs.declared.builder.action.ArgAction.TheVariants as action
use Rattle.clap.specs.declared.builder.value_parser.Reading.{Reading}
use Rattle.clap.specs.declared.builder.value_parser.Reading.TheVariants as reading
use Rattle.clap.specs.declared.builder.value_parser.ValueParser.TheVariants as vp
use Rattle.clap.specs.declared.parser.matches.ValueSource.{ValueSource}
use Rattle.clap.specs.declared.parser.matches.ValueSource.TheVariants.{CommandLine, DefaultValue}
use Rattle.clap.proofs.ValueTestLemmas.{accepts-Accepts}
use Rattle.command_line.specs.Private.Numbers.{IsNumberIn}
use Rattle.command_line.proofs.Lists.{Each, both, found}

-- ---- lists of kinds

pub none_first : (a b : Kinds) → or_else a b ≡ [] → a ≡ []
none_first a b h = grind arith

pub none_then : (a b : Kinds) → or_else a b ≡ [] → b ≡ []
none_then a b h = grind arith

-- ---- the branches of an `if`

pub by_cases : {X : Type 0} (P : X → Type 0) (b : Bool) (x y : X) → (b ≡ true → P x) → (b ≡ false → P y) → P (if b then x else y)
by_cases P b x y first second = grind arith

-- The same where no mistake is found in the branch that is taken.
either : {X : Type 0} (P : X → Type 0) (b : Bool) (f g : Kinds) (x y : X) → (if b then f else g) ≡ [] → (f ≡ [] → P x) → (g ≡ [] → P y)
    → P (if b then x else y)
either P b f g x y none first second = grind arith

-- ---- the number that a text writes

without_minus_is : (t : Text) → without_minus t ≡ cond (starts_with_minus t) (drop 1 t) t
without_minus_is [] = refl
without_minus_is (x ∷ xs) = go (x == 45)
  where
    go : (b : Bool) → unwrap_or (cond b (Some xs) None) (x ∷ xs) ≡ cond b xs (x ∷ xs)
    go true = refl
    go false = refl

no_plus : (ds : Text) → IsNumeral 10 ds → without_leading_plus ds ≡ ds
no_plus ds h = grind arith

in_range : (least most : ℕ) (t : Text) → IsSignedIn (pos least) (pos most) t → IsNumberIn least most (Some (without_minus t))
in_range least most t passed = subst (λ (u : Text). IsNumberIn least most (Some u)) (sym (without_minus_is t)) (go (starts_with_minus t) refl)
  where
    go : (b : Bool) → starts_with_minus t ≡ b → IsNumberIn least most (Some (cond (starts_with_minus t) (drop 1 t) t))
    go true minus =
        let low = rw minus at passed.2 in
        let numeral : IsNumeral 10 (drop 1 t) = rw minus at passed.0 in
        let same = no_plus (drop 1 t) numeral in
        rw (minus, same) (numeral, omega (arith, ints), omega (arith, ints))
    go false minus =
        let low = rw minus at passed.2 in
        let high = rw minus at passed.3 in
        let numeral = rw minus at passed.0 in
        rw minus (numeral, omega (arith, ints), omega (arith, ints))

module _ (id : Text) (least most : ℕ) where
  -- ---- the argument, and what was found for it

  -- The argument is an option with one number in the range.
  pub record IsNumberRule (a : Rule) : Type 0 where
    pub action : a.action ≡ Some action.Set
    pub range : a.range ≡ Some (record { start_inclusive = 1; end_inclusive = 1 })
    pub parser : a.parser ≡ Some (vp.Signed (pos least) (pos most))

  abbrev pub IsOwn : Rule → Type 0
  IsOwn a = bytes_eq a.id id ≡ true → IsNumberRule a

  abbrev pub AreOwn : List Rule → Type 0
  AreOwn = Each IsOwn

  found_own : (p : Rule → Bool) (c : List Rule) (a : Rule) → AreOwn c → find p c ≡ Some a → IsOwn a
  found_own p c a own is = (found IsOwn p c a own is).0

  -- Each text writes a number in the range.
  abbrev AreIn : List Text → Type 0
  AreIn = Each (λ v. IsNumberIn least most (Some (without_minus v)))

  abbrev pub IsFilled : List Text → Reading → Type 0
  IsFilled values how = (0 < length values) × AreIn values × (how ≡ reading.WithoutMinus)

  abbrev pub IsGood : Row → Type 0
  IsGood r = IsFilled r.values r.reading

  abbrev pub AreGood : List Row → Type 0
  AreGood = Each (λ r. bytes_eq r.id id ≡ true → IsGood r)

  longer : (xs ys : List Text) → 0 < length ys → 0 < length (xs ++ ys)
  longer [] ys h = h
  longer (x ∷ xs) ys h = omega arith

  at_good : (name : Text) (change : Row → List Row) (missing rows : List Row)
      → ((r : Row) → bytes_eq r.id name ≡ true → (bytes_eq r.id id ≡ true → IsGood r) → AreGood (change r)) → AreGood missing
      → AreGood rows → AreGood (at_row name change missing rows)
  at_good name change missing [] each none good = none
  at_good name change missing (r ∷ rs) each none good =
      by_cases AreGood (bytes_eq r.id name) _ _ (λ e. both _ (change r) rs (each r e good.0) good.1)
      (λ e. (good.0, at_good name change missing rs each none good.1))

  -- A row that answers to two names has both.
  same_name : (r : Row) (name : Text) → bytes_eq r.id name ≡ true → bytes_eq r.id id ≡ true → bytes_eq name id ≡ true
  same_name r name is own = subst (λ (t : Text). bytes_eq t id ≡ true) ((bytes_eq-Decides r.id name).0 is) own

  without_good : (name : Text) (rows : List Row) → AreGood rows → AreGood (without name rows)
  without_good name rows good = at_good name (λ _. []) [] rows (λ r is g. tt) tt good

  values_good : (name : Text) (how : Reading) (s : ValueSource) (values : List Text) (rows : List Row)
      → (bytes_eq name id ≡ true → IsFilled values how) → AreGood rows → AreGood (with_values name how s values rows)
  values_good name how s values rows filled good = grind (arith, at_good, same_name, longer, both)

  count_good : (name : Text) (how : Reading) (s : ValueSource) (n : ℕ) (rows : List Row) → bytes_eq name id ≡ false
      → AreGood rows → AreGood (with_count name how s n rows)
  count_good name how s n rows other good = grind (arith, at_good, same_name)

  -- ---- one use of an argument

  other_values : (name : Text) (how : Reading) (values : List Text) (rows : List Row) → bytes_eq name id ≡ false
      → AreGood rows → AreGood (with_values name how CommandLine values rows)
  other_values name how values rows other good = grind (arith, values_good)

  other_anew : (name : Text) (how : Reading) (values : List Text) (rows : List Row) → bytes_eq name id ≡ false
      → AreGood rows → AreGood (with_values name how CommandLine values (without name rows))
  other_anew name how values rows other good = other_values name how values (without name rows) other (without_good name rows good)

  other_used : (x : ArgAction) (name : Text) (how : Reading) (values : List Text) (rows : List Row) → bytes_eq name id ≡ false
      → AreGood rows → AreGood (used_as x name how values rows)
  other_used x name how values rows other good = grind (arith, other_anew, other_values, count_good, without_good)

  accepted : (case : Bool) (v : Text) → value_kinds case (vp.Signed (pos least) (pos most)) v ≡ [] → accepts case (vp.Signed (pos least) (pos most)) v ≡ true
  accepted case v none = go (accepts case (vp.Signed (pos least) (pos most)) v) (refused_kind (vp.Signed (pos least) (pos most))) none
    where
      go : (b : Bool) → (k : ErrorKind) → (if b then [] else k ∷ []) ≡ [] → b ≡ true
      go true k h = refl
      go false k h = cc

  values_in : (case : Bool) (values : List Text) → values_kinds case (vp.Signed (pos least) (pos most)) values ≡ [] → AreIn values
  values_in case [] none = tt
  values_in case (v ∷ vs) none = (
    in_range least most v (accepts-Accepts case (vp.Signed (pos least) (pos most)) v (accepted case v (none_first _ _ none))),
    values_in case vs (none_then _ _ none),
  )

  fault_free : (a : Rule) (values : List Text) → IsNumberRule a → values_fault a values ≡ [] → AreIn values
  fault_free a values rule none = grind (arith, values_in)

  reads : (a : Rule) → IsNumberRule a → reading_by a ≡ reading.WithoutMinus
  reads a rule = rw rule.parser refl

  own_used : (a : Rule) (again : Bool) (values : List Text) (rows : List Row) → IsNumberRule a → use_fault again a values rows ≡ []
      → AreGood rows → AreGood (used a values rows)
  own_used a again values rows rule none good = grind (arith, none_first, none_then, fault_free, values_good, reads, without_good)

  used_good : (a : Rule) (again : Bool) (values : List Text) (rows : List Row) → IsOwn a → use_fault again a values rows ≡ []
      → AreGood rows → AreGood (used a values rows)
  used_good a again values rows own none good = go (bytes_eq a.id id) refl
    where
      go : (b : Bool) → bytes_eq a.id id ≡ b → AreGood (used a values rows)
      go true e = own_used a again values rows (own e) none good
      go false e = other_used (action_of a) a.id (reading_by a) (values_or_missing a values) rows e good

  -- ---- the walk

  -- Where no mistake is found, good rows stay good.
  abbrev pub Keeps : Kinds → Held → Held → Type 0
  Keeps fault old new = fault ≡ [] → AreGood old.rows → AreGood new.rows

  module _ (c : List Rule) (again : Bool) (own : AreOwn c) where
    pub settled_good : (h : Held) → Keeps (settle_fault c again h) h (settled c h)
    settled_good h none good = go h.pending none
      where
        named : (p : Text × List Text) (o : Option Rule) → arg_by_id c p.0 ≡ o → option_map_or (λ a. use_fault again a p.1 h.rows) o [] ≡ []
            → AreGood (used_by_id o p.1 h.rows)
        named p None e n = good
        named p (Some a) e n = used_good a again p.1 h.rows (found_own _ c a own e) n good

        go : (pending : Option (Text × List Text))
            → option_map_or (λ p. option_map_or (λ a. use_fault again a p.1 h.rows) (arg_by_id c p.0) []) pending [] ≡ []
            → AreGood (settled_rows c pending h.rows)
        go None n = good
        go (Some p) n = named p (arg_by_id c p.0) refl n

    reacted_good : (a : Rule) (values : List Text) (h : Held) → IsOwn a → Keeps (react_fault c again a values h) h (reacted c a values h)
    reacted_good a values h mine none good = grind (arith, used_good, none_then, settled_good, none_first)

    option_good : (a : Rule) (v : Option Text) (h : Held) → IsOwn a → Keeps (option_fault c again a v h) h (option_met c a v h).0
    option_good a (Some v) h mine none good = reacted_good a (v ∷ []) h mine none good
    option_good a None h mine none good = settled_good h none good

    flag_good : (a : Rule) (v : Option Text) (h : Held) → IsOwn a
        → Keeps (if is_some v then kind.TooManyValues ∷ [] else react_fault c again a [] h) h (flag_met c a v h).0
    flag_good a (Some v) h mine none good = good
    flag_good a None h mine none good = reacted_good a [] h mine none good

    long_good : (o : Option Rule) (v : Option Text) (h : Held) → ((a : Rule) → o ≡ Some a → IsOwn a)
        → Keeps (long_fault c again o v h) h (long_met c o v h).0
    long_good o v h mine none good = grind (arith, either, option_good, flag_good)

    short_good : (o : Option Rule) (rest : Text) (h : Held) (after : Held → Held × Outcome) (fault : Held → Kinds)
        → ((a : Rule) → o ≡ Some a → IsOwn a) → ((x : Held) → Keeps (fault x) x (after x).0)
        → Keeps (short_fault c again o rest h fault) h (short_met c o rest h after).0
    short_good None rest h after fault mine later none good = good
    short_good (Some a) rest h after fault mine later none good =
        either (λ (r : Held × Outcome). AreGood r.0.rows) (takes_values a) _ _ _ _ none
        (λ n. option_good a (attached_value rest) h (mine a refl) n good)
        (λ n. later (reacted c a [] h) (none_then _ _ n) (reacted_good a [] h (mine a refl) (none_first _ _ n) good))

    bundle_good : (k : ℕ) (flags : Text) (skip : ℕ) (so_far : Outcome) (h : Held)
        → Keeps (flags_fault c again k flags skip h) h (bundle_met c k flags skip so_far h).0
    unfolding bundle_met flags_fault
    bundle_good zero flags skip so_far h none good = good
    bundle_good (suc k) flags skip so_far h none good =
        go (λ f s o x n g. bundle_good k f s o x n g) (slice_get (chars flags) 0) skip none
      where
        go : ((f : Text) (s : ℕ) (o : Outcome) (x : Held) → Keeps (flags_fault c again k f s x) x (bundle_met c k f s o x).0)
            → (first : Option ℕ) (s : ℕ) → bundle_step_fault c again first flags s h (flags_fault c again k) ≡ []
            → AreGood (bundle_step c first flags s so_far h (bundle_met c k)).0.rows
        go later None s n = good
        go later (Some x) zero n =
            let rest = drop (length (encode_utf8 x)) flags in
            short_good (arg_by_short c x) rest h (bundle_met c k rest 0 done) (flags_fault c again k rest 0)
            (λ a e. found_own _ c a own e) (λ y f g. later rest 0 done y f g) n good
        go later (Some x) (suc s) n = later (drop (length (encode_utf8 x)) flags) s so_far h n good

    -- A word that is no flag changes no row.
    plain_good : (waiting : Waiting) (word : Text) (h : Held) → AreGood h.rows → AreGood (plain_word c waiting word h).0.rows
    plain_good idle word h good = good
    plain_good positional word h good = good
    plain_good (option name) word h good = go (arg_by_id c name)
      where
        go : (o : Option Rule) → AreGood (option_word o name word h).0.rows
        go None = good
        go (Some a) = good

    after_good : (waiting : Waiting) (word : Text) (h : Held) (o : Outcome) → AreGood h.rows → AreGood (after_flag c waiting word h o).0.rows
    after_good waiting word h o good = grind arith

    flag_word_good : (waiting : Waiting) (word : Text) (o : Option (Text × Option Text)) (h : Held)
        → Keeps (flag_word_fault c again o word h) h (long_or_other c waiting word o h).0
    flag_word_good waiting word (Some p) h none good =
        after_good waiting word (long_met c (arg_by_long c p.0) p.1 h).0 (long_met c (arg_by_long c p.0) p.1 h).1
        (long_good (arg_by_long c p.0) p.1 h (λ a e. found_own _ c a own e) none good)
    flag_word_good waiting word None h none good = go (short_of word) none
      where
        go : (o : Option Text) → option_map_or (λ flags. bundle_fault c again flags h) o [] ≡ [] → AreGood (short_or_plain c waiting word o h).0.rows
        go (Some flags) n = after_good waiting word (bundle c flags h).0 (bundle c flags h).1
            (bundle_good (length flags) flags h.skip plain (record h { skip = 0 }) n good)
        go None n = plain_good waiting word h good

    positional_good : (a : Rule) (word : Text) (h : Held) → Keeps (positional_fault c again a h) h (positional_held c a word h)
    positional_good a word h none good = grind (arith, either, settled_good)

  -- ---- one word

  module _ (s : Shape) (names : Names) (own : AreOwn s.rules) where
    other_good : (o : Option Text) (waiting : Waiting) (position : ℕ) (word : Text) (h : Held)
        → Keeps (other_fault s o word h) h (subcommand_or_other s.rules o waiting position word h).0
    other_good o waiting position word h none good = grind (arith, either, flag_word_good)

    word_good : (b : Bool) (waiting : Waiting) (position : ℕ) (word : Text) (h : Held)
        → Keeps (word_fault s names b waiting word h) h (word_met s.rules names b waiting position word h).0
    word_good b waiting position word h none good = grind (arith, other_good)

    value_good : (o : Option Rule) (word : Text) (w : Walk) (h : Held)
        → Keeps (option_map_or (λ a. positional_fault s.rules s.args_override_self a h) o (stray_fault s)) h (to_positional s.rules o word w h).held
    value_good None word w h none good = good
    value_good (Some a) word w h none good = positional_good s.rules s.args_override_self own a word h none good

    step_good : (word : Text) (w : Walk) (h : Held) (step : Step) → Keeps (step_fault s w.position h step) h (after_step s.rules word w h step).held
    step_good word w h step none good = grind (arith, value_good)

    turn_good : (w : Walk) (word : Text) → Keeps (turn_fault s names w word) w.held (walked s.rules names w word).held
    unfolding walked
    turn_good w word none good = go w.stopped none
      where
        go : (o : Option (Text × List Text))
            → (if is_some o then [] else or_else (word_fault s names w.is_trailing w.waiting word w.held)
            (step_fault s w.position (word_met s.rules names w.is_trailing w.waiting w.position word w.held).0
            (word_met s.rules names w.is_trailing w.waiting w.position word w.held).1)) ≡ []
            → AreGood (walked_from s.rules names o w word).held.rows
        go (Some p) n = good
        go None n =
            let met = word_met s.rules names w.is_trailing w.waiting w.position word w.held in
            step_good word w met.0 met.1 (none_then _ _ n) (word_good w.is_trailing w.waiting w.position word w.held (none_first _ _ n) good)

    -- ---- all words, and the defaults

    pub walk_good : (w : Walk) (words : List Text) → Keeps (walk_fault s names w words) w.held (fold (walked s.rules names) w words).held
    unfolding walk_fault
    walk_good w [] none good = good
    walk_good w (word ∷ rest) none good =
        walk_good (walked s.rules names w word) rest (none_then (turn_fault s names w word) _ none)
        (turn_good w word (none_first (turn_fault s names w word) _ none) good)

  default_good : (a : Rule) (rows : List Row) → IsOwn a → default_fault rows a ≡ [] → AreGood rows → AreGood (with_default rows a)
  default_good a rows own none good = go (has_row a.id rows) none
    where
      texts_good : (texts : List Text) → (if is_empty texts then [] else given_default_fault a texts) ≡ []
          → AreGood (default_rows a.id (reading_by a) texts rows)
      texts_good [] n = good
      texts_good (v ∷ vs) n =
          let some : is_empty (v ∷ vs) ≡ false = ne_eqb _ _ (λ e. omega arith) in
          let fault : given_default_fault a (v ∷ vs) ≡ [] = rw some at n in
          let length_some : 0 < length (v ∷ vs) = omega arith in
          values_good a.id (reading_by a) DefaultValue (v ∷ vs) rows
          (λ mine. (
            length_some,
            fault_free a (v ∷ vs) (own mine)
                (none_then (request_kinds (action_of a)) (values_fault a (v ∷ vs)) fault),
            reads a (own mine),
          ))
          good

      go : (b : Bool) → (if b || is_empty a.defaults then [] else given_default_fault a a.defaults) ≡ []
          → AreGood (if b then rows else default_rows a.id (reading_by a) a.defaults rows)
      go true n = good
      go false n = texts_good a.defaults n

  pub defaults_good : (c : List Rule) (rows : List Row) → AreOwn c → defaults_fault rows c ≡ [] → AreGood rows → AreGood (fold with_default rows c)
  unfolding defaults_fault
  defaults_good [] rows own none good = good
  defaults_good (a ∷ more) rows own none good =
      defaults_good more (with_default rows a) own.1 (none_then (default_fault rows a) _ none)
      (default_good a rows own.0 (none_first (default_fault rows a) _ none) good)
