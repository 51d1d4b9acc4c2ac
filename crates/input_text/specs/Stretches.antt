-- Inputs as they are printed: a line for each stretch of equal ones. This project's own.
use Rattle.std.specs.Prelude.{◌≡◌, ◌≢◌, ℕ, ◌+◌, ◌≤◌, List, [], ◌∷◌, ◌++◌, take, drop, replicate, Some}
use Rattle.std.specs.Prelude.{codes, slice_get}
use Rattle.std.specs.Fmt.{decimal}
use Rattle.std.specs.List.{flat_map}
use Rattle.vcs_machine.specs.Inputs.{InputData}
use Rattle.input_text.specs.declared.name.Name.{Name}
use Rattle.input_text.specs.declared.stretch.Stretch.{Stretch}
use Rattle.input_text.specs.Names.{bit_of_name, names_in}

-- inputs begin with a stretch: so many are its input, and the next, if there is one, is another
pub record BeginWith (s : Stretch) (inputs : List InputData) : Type 0 where
  pub some : 1 ≤ s.count
  pub equal : take s.count inputs ≡ replicate s.count s.input
  pub longest : slice_get inputs s.count ≢ Some s.input

-- the stretches that inputs are, one after the other, each as long as it can be
abbrev pub AreStretches : List InputData → List Stretch → Type 0
AreStretches inputs [] = inputs ≡ []
AreStretches inputs (s ∷ more) = BeginWith s inputs × AreStretches (drop s.count inputs) more

-- a space and a name
abbrev pub name_after_space : Name → List ℕ
name_after_space name = 32 ∷ (bit_of_name name).word

-- how many frames, the names that are held, each after a space, and a line feed
abbrev pub line_of : Stretch → List ℕ
line_of s = decimal s.count ++ flat_map name_after_space (names_in s.input) ++ 10 ∷ []

-- the text is the lines of the stretches that the inputs are
pub record IsPrinted (inputs : List InputData) (text : List ℕ) : Type 0 where
  pub stretches : List Stretch
  pub inputs_are : AreStretches inputs stretches
  pub text_is : text ≡ flat_map line_of stretches

-- The lines of stretches that follow one another from this frame on, each after the number of its
-- first frame, a colon and a space.
abbrev pub numbered_lines : ℕ → List Stretch → List ℕ
numbered_lines frame [] = []
numbered_lines frame (s ∷ more) = decimal frame ++ codes ": " ++ line_of s ++ numbered_lines (frame + s.count) more

-- the text is those of the stretches that the inputs are, of which the first is that of this frame
pub record IsNumbered (first : ℕ) (inputs : List InputData) (text : List ℕ) : Type 0 where
  pub stretches : List Stretch
  pub inputs_are : AreStretches inputs stretches
  pub text_is : text ≡ numbered_lines first stretches
