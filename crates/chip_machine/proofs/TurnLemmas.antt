-- What each instruction of a frame that goes on keeps holds as the frame ends.
use Rattle.std.proofs.Common.{◌≡◌, ℕ, zero, suc, Bool, true, false, refl}
use Rattle.std.specs.Prelude.{nat_le, if◌then◌else◌}
use Rattle.chip_machine.specs.Frame.{Machine, Turn, Faulty, Went, Ended, Overlong, overlong_cycles}
use Rattle.chip_machine.specs.Frame.{turn, stop_after, stop_within, stop_of}

module _ {S : Type 0} (drawn : S → ℕ → ℕ → ℕ → S) (Fact : Machine S → Type 0)
    (turns : (m next : Machine S) → Fact m → m.console.has_ended ≡ false → turn drawn m ≡ Went next → Fact next) where
  abbrev Kept : (Machine S → Type 0) → ℕ → Type 0
  Kept Fact n =
      (m end : Machine S) → Fact m → m.console.has_ended ≡ false → stop_within drawn n m ≡ Ended end
      → Fact end × (end.console.has_ended ≡ true)

  within-kept : (tries : ℕ) → Kept Fact tries
  unfolding stop_within
  within-kept zero m end fact unended e = absurd cc
  within-kept (suc n) m end fact unended e = by_length (nat_le overlong_cycles m.console.cycles) e (within-kept n)
    where
      by_end : (next : Machine S) (over : Bool) → next.console.has_ended ≡ over → Fact next
          → (if over then Ended next else stop_within drawn n next) ≡ Ended end → Kept Fact n
          → Fact end × (end.console.has_ended ≡ true)
      by_end next true is fact e later = let same : next ≡ end = cc in rw (← same) (fact, is)
      by_end next false is fact e later = later next end fact is e

      by_turn : (t : Turn S) → turn drawn m ≡ t → stop_after drawn (stop_within drawn n) t ≡ Ended end → Kept Fact n
          → Fact end × (end.console.has_ended ≡ true)
      by_turn (Faulty fault) is e later = absurd cc
      by_turn (Went next) is e later = by_end next next.console.has_ended refl (turns m next fact unended is) e later

      by_length : (long : Bool) → (if long then Overlong else stop_after drawn (stop_within drawn n) (turn drawn m)) ≡ Ended end → Kept Fact n
          → Fact end × (end.console.has_ended ≡ true)
      by_length true e later = absurd cc
      by_length false e later = by_turn (turn drawn m) refl e later

  pub ended-kept : (m end : Machine S) → Fact m → m.console.has_ended ≡ false → stop_of drawn m ≡ Ended end
      → Fact end × (end.console.has_ended ≡ true)
  unfolding stop_of
  ended-kept m end fact unended e = within-kept overlong_cycles m end fact unended e
