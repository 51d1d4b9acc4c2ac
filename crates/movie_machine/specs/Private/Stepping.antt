-- A frame as it is kept while it is executed. This project's own.
use Rattle.movie_machine.specs.Instructions.{Underway}
use Rattle.movie_machine.specs.Instructions as underway
use Rattle.movie_machine.specs.declared.stepping.Frame.{Frame}
use Rattle.movie_machine.specs.declared.stepping.Frame.TheVariants.{Guide, Chip}

abbrev pub underway_of : Frame → Underway
underway_of (Guide frame) = underway.Guide frame.cart.now frame.line_cycle frame.stepping
underway_of (Chip frame) = underway.Chip frame.cart.now frame.stepping
