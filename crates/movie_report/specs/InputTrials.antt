-- Whether a run is in a claim, which the movie's own run isn't in, once the input of one frame is left out or played twice. A frame too
-- many and a frame missing are what mostly goes wrong with a list of inputs. Only what is found is told. This project's own.
use Rattle.std.specs.Prelude.{ℕ, ◌+◌, ◌-◌, ◌*◌, nat_le, max, Bool, List, [], ◌∷◌, ◌++◌, length, codes, Option, Some, None, is_some}
use Rattle.std.specs.Prelude.{take, drop, find, flat_map, if◌then◌else◌}
use Rattle.std.specs.Fmt.{decimal}
use Rattle.std.specs.List.{range_with_len}
use Rattle.vcs_machine.specs.Inputs.{InputData}
use Rattle.movie_machine.specs.declared.state.State.{State}
use Rattle.movie_file.specs.Movie.{MovieData}
use Rattle.movie_file.specs.Run.{run}
use Rattle.movie_file.specs.declared.checkpoint.Checkpoint.{Checkpoint}
use Rattle.replay_plan.specs.declared.notation.Notation.{Notation}
use Rattle.replay_plan.specs.declared.notation.Notation.TheVariants.{Lines, Json}
use Rattle.movie_report.specs.CheckpointFacts.{last_frame, last_of}
use Rattle.movie_report.specs.ClaimPlace.{first_frame_in, is_state}
use Rattle.movie_report.specs.declared.input_trials.Change.{Change}
use Rattle.movie_report.specs.declared.input_trials.Change.TheVariants.{LeftOut, Twice}
use Rattle.movie_report.specs.declared.input_trials.Trial.{Trial}

-- ---- trials

-- The inputs of frames 1, 2, .., of which that of a frame is left out, or comes twice in a row.
abbrev pub changed : Change → ℕ → List InputData → List InputData
changed LeftOut frame inputs = take (frame - 1) inputs ++ drop frame inputs
changed Twice frame inputs = take frame inputs ++ drop (frame - 1) inputs

-- The run with the inputs of a trial is in a state after its last frame.
abbrev pub leads_to : MovieData → State → Trial → Bool
leads_to m state t = is_state m.cartridge state (run (record m { inputs = changed t.change t.frame m.inputs }) m.start 0 t.after)

-- The trials of a frame for a claim after frame `last`: with each change as if the claim had moved together with the inputs, and as if
-- it hadn't.
abbrev pub trials_of : ℕ → Change → ℕ → List Trial
trials_of last LeftOut frame =
    record { change = LeftOut; frame = frame; after = last - 1 } ∷ record { change = LeftOut; frame = frame; after = last } ∷ []
trials_of last Twice frame =
    record { change = Twice; frame = frame; after = last } ∷ record { change = Twice; frame = frame; after = last + 1 } ∷ []

abbrev pub trials_at : ℕ → ℕ → List Trial
trials_at last frame = trials_of last LeftOut frame ++ trials_of last Twice frame

-- Those of the frames after this one, up to the last.
abbrev pub trials_after : ℕ → ℕ → List Trial
trials_after last before = flat_map (trials_at last) (range_with_len (before + 1) (last - before))

-- ---- what is tried

-- The frame of the claim before the one of this number, or the start.
abbrev pub frame_before : MovieData → ℕ → ℕ
frame_before m number = last_frame (last_of (take (number - 1) m.checkpoints))

-- A segment of so many frames is tried if it has at most 64, or if their square is at most the number of the movie's frames: so many
-- frames the trials play, about.
abbrev pub is_tried : MovieData → ℕ → Bool
is_tried m count = nat_le (count * count) (max 4096 (length m.inputs))

-- The first trial of this claim's segment that leads to the claim. None is needed where the run itself has the claimed state after
-- another frame.
abbrev pub first_trial : MovieData → ℕ → ℕ → State → Option Trial
first_trial m number last state =
    if is_some (first_frame_in m state) then None
    else (if is_tried m (last - frame_before m number) then find (leads_to m state) (trials_after last (frame_before m number)) else None)

-- ---- how it is told

-- That the run with this frame's input so changed is in the claim of a number after this frame.
abbrev pub change_fact : Notation → Change → (frame number after : ℕ) → List ℕ
change_fact Lines LeftOut frame number after =
    codes "without the input of frame " ++ (decimal frame ++ (codes " the run is in claim " ++ (decimal number ++ (codes " after frame " ++ (decimal after ++ 10 ∷ [])))))
change_fact Lines Twice frame number after =
    codes "with the input of frame " ++ (decimal frame ++ (codes " twice the run is in claim " ++ (decimal number ++ (codes " after frame " ++ (decimal after ++ 10 ∷ [])))))
change_fact Json LeftOut frame number after =
    codes ",\"input_left_out\":" ++ (decimal frame ++ (codes ",\"in_claim_after\":" ++ decimal after))
change_fact Json Twice frame number after =
    codes ",\"input_twice\":" ++ (decimal frame ++ (codes ",\"in_claim_after\":" ++ decimal after))

-- The same of a trial, if one is found.
abbrev pub trial_fact : Notation → ℕ → Option Trial → List ℕ
trial_fact notation number None = []
trial_fact notation number (Some t) = change_fact notation t.change t.frame number t.after

-- That of the claim of this number, which stands after frame `last`.
abbrev pub trial_text : Notation → MovieData → ℕ → ℕ → Option Checkpoint → List ℕ
trial_text notation m number last None = []
trial_text notation m number last (Some c) = trial_fact notation number (first_trial m number last c.state)
