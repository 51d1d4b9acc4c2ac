-- What a movie's checkpoints claim, number by number. This project's own.
use Rattle.std.specs.Prelude.{ℕ, ◌+◌, List, [], ◌∷◌, ◌++◌, codes, take, drop, Option}
use Rattle.std.specs.Fmt.{decimal}
use Rattle.std.specs.List.{flat_map}
use Rattle.hex.specs.Hex.{encode_upper}
use Rattle.cart_board.specs.Board.{Row}
use Rattle.movie_machine.specs.Carts.{board_of}
use Rattle.movie_machine.specs.declared.cart.Cart.{Cart}
use Rattle.movie_file.specs.Record.{record_in}
use Rattle.movie_file.specs.declared.checkpoint.Checkpoint.{Checkpoint}
use Rattle.movie_report.specs.Numbers.{NumberData, state_names}
use Rattle.replay_plan.specs.declared.notation.Notation.{Notation}
use Rattle.replay_plan.specs.declared.notation.Notation.TheVariants.{Lines, Json}

-- A number of a record: its name, and its bytes.
pub record Value : Type 0 where
  pub name : List ℕ
  pub bytes : List ℕ

-- A record cut into its numbers.
abbrev pub values : List NumberData → List ℕ → List Value
values [] a = []
values (n ∷ ns) a = record { name = n.name; bytes = take n.length a } ∷ values ns (drop n.length a)

-- A line, or a member of an object after those before it.
abbrev pub value_text : Notation → Value → List ℕ
value_text Lines value = value.name ++ (codes ": " ++ (encode_upper value.bytes ++ 10 ∷ []))
value_text Json value = codes ",\"" ++ (value.name ++ (codes "\":\"" ++ (encode_upper value.bytes ++ codes "\"")))

-- The numbers of a record, in its order, by the board of its cartridge.
unfoldable pub values_text : Notation → Option Row → List ℕ → List ℕ
values_text notation board a = flat_map (value_text notation) (values (state_names board) a)

-- The checkpoint of this number: after which frame it stands, and the state that it claims, with this cartridge.
abbrev pub claimed_text : Notation → Cart → ℕ → Checkpoint → List ℕ
claimed_text Lines cartridge number c =
    codes "checkpoint " ++ (decimal number ++ (codes ": frame " ++ (decimal c.frame ++ (10 ∷ values_text Lines (board_of cartridge) (record_in cartridge c.state)))))
claimed_text Json cartridge number c =
    codes "{\"checkpoint\":" ++ (decimal number ++ (codes ",\"frame\":" ++ (decimal c.frame ++ (codes ",\"claimed\":{"
    ++ (drop 1 (values_text Json (board_of cartridge) (record_in cartridge c.state)) ++ (codes "}}" ++ 10 ∷ []))))))

-- The checkpoints that come after so many.
abbrev pub claims_text : Notation → Cart → ℕ → List Checkpoint → List ℕ
claims_text notation cartridge before [] = []
claims_text notation cartridge before (c ∷ cs) = claimed_text notation cartridge (before + 1) c ++ claims_text notation cartridge (before + 1) cs
