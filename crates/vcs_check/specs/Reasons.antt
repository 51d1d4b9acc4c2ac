-- When reasons are asked for. This project's own.
use Rattle.std.specs.Prelude.{◌≡◌, List, String, true, codes, string_bytes}
use Rattle.std.specs.List.{before_first, list_any}
use Rattle.std.specs.Str.{bytes_eq}

-- `--explain` is one of the words before `--`, whatever they say else.
abbrev pub HasExplain : {Z : Type 0} → List (String Z) → Type 0
HasExplain words =
    list_any (λ word. bytes_eq (string_bytes word) (codes "--explain"))
    (before_first (λ word. bytes_eq (string_bytes word) (codes "--")) words) ≡ true
