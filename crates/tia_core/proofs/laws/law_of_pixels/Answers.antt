use Rattle.tia_core.proofs.PixelPlaces.{pixels-places, pixels-rise, pixels-in_line}
use Rattle.tia_core.proofs.LawfulNumbers.{lawful_of}
use Rattle.tia_core.proofs.laws.law_of_pixels.Goals as goal

pub returns-clause-places : goal.returns-clause-places
returns-clause-places c n s h k = pixels-places n s (lawful_of s.fields h).clock k

pub returns-clause-rise : goal.returns-clause-rise
returns-clause-rise c n s h k = pixels-rise n s (lawful_of s.fields h).clock k

pub returns-clause-in_line : goal.returns-clause-in_line
returns-clause-in_line c n s h = pixels-in_line n s (lawful_of s.fields h).clock
