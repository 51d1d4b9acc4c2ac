-- What the loop of a frame has to do besides instructions. This project's own.
use Rattle.std.specs.Prelude.{◌≡◌, Bool, false}

-- Where nothing is to be done WSYNC has not stopped the processor, and the frame has not ended.
pub record AreTold (is_stopped has_ended has_event : Bool) : Type 0 where
  pub no_stop : has_event ≡ false → is_stopped ≡ false
  pub no_end : has_event ≡ false → has_ended ≡ false
