use Rattle.std.proofs.Common.{append_assoc, refl}
use Rattle.std.proofs.lemmas.Grind.{put_two}
use Rattle.movie_hints.proofs.hint.HintDisplay.fmt.Goals as goal

pub returns-in-InHeader-clause-writes : goal.returns-in-InHeader-clause-writes
returns-in-InHeader-clause-writes g c = λ plain ok. rw c.in-InHeader.is (c.write.ensures.writes plain ok)

pub returns-in-Missing-clause-writes : goal.returns-in-Missing-clause-writes
returns-in-Missing-clause-writes g c = λ plain ok. rw c.in-Missing.is (c.write-in-Missing.ensures.writes plain ok)

pub returns-in-Extra-clause-writes : goal.returns-in-Extra-clause-writes
returns-in-Extra-clause-writes g c = λ plain ok. rw c.in-Extra.is (c.write-in-Extra.ensures.writes plain ok)

pub returns-in-NoCartridge-clause-writes : goal.returns-in-NoCartridge-clause-writes
returns-in-NoCartridge-clause-writes g c = λ plain ok. rw c.in-NoCartridge.is (c.write-in-NoCartridge.ensures.writes plain ok)

pub returns-in-OddLength-clause-writes : goal.returns-in-OddLength-clause-writes
returns-in-OddLength-clause-writes g c = λ plain ok. rw c.in-OddLength.is (c.write-in-OddLength.ensures.writes plain ok)

pub returns-in-Holds-clause-writes : goal.returns-in-Holds-clause-writes
returns-in-Holds-clause-writes g c = λ plain ok. rw c.in-Holds.is (c.write-in-Holds.ensures.writes plain ok)

pub returns-in_ok-write-in-NoCartridgeOn-clause-writes : goal.returns-in_ok-write-in-NoCartridgeOn-clause-writes
returns-in_ok-write-in-NoCartridgeOn-clause-writes g c =
    λ plain ok.
    let first = c.in_ok-write-in-NoCartridgeOn.ensures.writes plain refl in
    rw c.in-NoCartridgeOn.is (put_two _ _ _ _ _ _ _ first (c.write_lengths.ensures first.plain ok) (simp append_assoc))
