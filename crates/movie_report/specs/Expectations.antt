-- What is expected of a movie, and how the movie agrees with it. This project's own.
use Rattle.std.specs.Prelude.{ℕ, Bool, true, false, not, ◌&&◌, ◌||◌, List, ◌++◌, codes, Option, Some, None, if◌then◌else◌}
use Rattle.std.specs.Str.{bytes_eq}
use Rattle.sha2.specs.Sha256.{sha256}
use Rattle.movie_machine.specs.Carts.{bytes_of}
use Rattle.movie_machine.specs.States.{state_at_power_on}
use Rattle.movie_file.specs.Movie.{MovieData}
use Rattle.movie_file.specs.Record.{record_in}
use Rattle.replay_plan.specs.declared.expectations.Expectations.{Expectations}
use Rattle.replay_plan.specs.declared.notation.Notation.{Notation}
use Rattle.movie_report.specs.CartridgeDifferences.{cartridge_differences}
use Rattle.movie_report.specs.Notations.{answer_fact}
use Rattle.movie_report.specs.Segments.{ends_with_checkpoint}
use Rattle.movie_report.specs.declared.expectations.Agreement.{Agreement}

-- A cartridge has exactly the bytes of a ROM, if there is one,
abbrev pub is_of_rom : List ℕ → Option (List ℕ) → Bool
is_of_rom cartridge None = true
is_of_rom cartridge (Some rom) = bytes_eq cartridge rom

-- and this SHA-256, if there is one.
abbrev pub has_digest : List ℕ → Option (List ℕ) → Bool
has_digest cartridge None = true
has_digest cartridge (Some digest) = bytes_eq (sha256 cartridge) digest

-- It is the one that is expected, if a ROM or a digest is.
abbrev pub cartridge_agreement : List ℕ → Option (List ℕ) → Option (List ℕ) → Option Bool
cartridge_agreement cartridge None None = None
cartridge_agreement cartridge rom digest = Some (is_of_rom cartridge rom && has_digest cartridge digest)

-- A movie's start state has the record of power-on.
abbrev pub starts_at_power_on : MovieData → Bool
starts_at_power_on m = bytes_eq (record_in m.cartridge m.start) (record_in m.cartridge (state_at_power_on m.cartridge))

-- How a movie agrees with what is expected of it.
abbrev pub agreement_of : MovieData → Option (List ℕ) → Expectations → Agreement
agreement_of m rom expected = record {
  cartridge = cartridge_agreement (bytes_of m.cartridge) rom expected.digest;
  start = if expected.power_on then Some (starts_at_power_on m) else None;
  last_frame = if expected.to_the_end then Some (ends_with_checkpoint m) else None;
}

abbrev pub is_no : Option Bool → Bool
is_no None = false
is_no (Some answer) = not answer

-- Anything isn't as expected.
abbrev pub disagrees : Agreement → Bool
disagrees agreement = is_no agreement.cartridge || is_no agreement.start || is_no agreement.last_frame

-- A line or a member for each that is expected, and in what the cartridge differs from a ROM that is.
abbrev pub agreement_text : Notation → Option (List ℕ) → List ℕ → Agreement → List ℕ
agreement_text notation rom cartridge agreement =
    answer_fact notation (codes "cartridge_expected") (codes "cartridge expected: ") agreement.cartridge
    ++ (cartridge_differences notation rom cartridge
    ++ (answer_fact notation (codes "start_expected") (codes "start expected: ") agreement.start
    ++ answer_fact notation (codes "last_frame_expected") (codes "last frame expected: ") agreement.last_frame))
