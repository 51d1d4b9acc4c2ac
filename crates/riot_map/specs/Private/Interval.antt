-- The timer's intervals as the code names them. MOS MCS6532 data sheet; Stella Programmer's Guide:
-- TIM1T, TIM8T, TIM64T, T1024T.
use Rattle.std.specs.Prelude.{ℕ}
use Rattle.riot_map.specs.declared.interval.Interval.{Interval}
use Rattle.riot_map.specs.declared.interval.Interval.TheVariants.{Tim1t, Tim8t, Tim64t, T1024t}

-- in cycles
abbrev pub interval_cycles : Interval → ℕ
interval_cycles Tim1t = 1
interval_cycles Tim8t = 8
interval_cycles Tim64t = 64
interval_cycles T1024t = 1024

abbrev pub code_of_interval : Interval → ℕ
code_of_interval Tim1t = 0
code_of_interval Tim8t = 1
code_of_interval Tim64t = 2
code_of_interval T1024t = 3
