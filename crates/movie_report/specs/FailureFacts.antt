-- What is said of a movie that isn't genuine: what differs, or where its frame faults, and its segments. This project's own.
use Rattle.std.specs.Prelude.{◌≡◌, ℕ, ◌-◌, List, [], ◌∷◌, ◌++◌, codes, Option, Some, None, slice_get}
use Rattle.std.specs.Fmt.{decimal}
use Rattle.mos_cpu.specs.Registers.{Registers}
use Rattle.vcs_machine.specs.Faults.{hex2, hex4}
use Rattle.movie_machine.specs.Carts.{board_of}
use Rattle.movie_machine.specs.States.{line_cycle_of, registers_of}
use Rattle.movie_machine.specs.declared.cart.Cart.{Cart}
use Rattle.movie_machine.specs.declared.state.State.{State}
use Rattle.movie_file.specs.Movie.{MovieData}
use Rattle.movie_file.specs.Record.{record_in}
use Rattle.movie_file.specs.Run.{run}
use Rattle.movie_file.specs.declared.checkpoint.Checkpoint.{Checkpoint}
use Rattle.replay_segments.specs.RunStates.{left_at}
use Rattle.replay_segments.specs.declared.run_states.LeftState.{LeftState}
use Rattle.replay_segments.specs.declared.verdict.Verdict.{Verdict}
use Rattle.replay_segments.specs.declared.verdict.Verdict.TheVariants.{Genuine, FalseCheckpoint}
use Rattle.replay_segments.specs.declared.verdict.Verdict.TheVariants.{Fault}
use Rattle.movie_report.specs.ClaimPlace.{place_text}
use Rattle.movie_report.specs.ClaimSigns.{claim_signs}
use Rattle.movie_report.specs.Differences.{differences_text}
use Rattle.movie_report.specs.InputTrials.{trial_text}
use Rattle.movie_report.specs.Reasons.{sentence_in, reason_text}
use Rattle.movie_report.specs.Segments.{AreSigns, signs_text}
use Rattle.movie_report.specs.declared.differences.Comparison.TheVariants.{Claim}
use Rattle.movie_report.specs.declared.segments.Sign.{Sign}
use Rattle.replay_plan.specs.declared.notation.Notation.{Notation}
use Rattle.replay_plan.specs.declared.notation.Notation.TheVariants.{Lines, Json}

-- In which numbers a claimed state differs from that of the run with this cartridge.
abbrev pub claim_text : Notation → Cart → Option Checkpoint → Option State → List ℕ
claim_text notation cartridge (Some c) (Some found) = differences_text notation Claim (board_of cartridge) (record_in cartridge c.state) (record_in cartridge found)
claim_text notation cartridge c None = []
claim_text notation cartridge None found = []

-- The processor's registers, with the flags as in a state record.
abbrev pub registers_text : Notation → Registers → List ℕ
registers_text Lines c =
    codes "registers: A " ++ (hex2 c.a ++ (codes ", X " ++ (hex2 c.x ++ (codes ", Y " ++ (hex2 c.y ++ (codes ", S " ++ (hex2 c.s
    ++ (codes ", P " ++ (hex2 c.p ++ (codes ", PC " ++ (hex4 c.pc ++ 10 ∷ [])))))))))))
registers_text Json c =
    codes ",\"registers\":{\"A\":\"" ++ (hex2 c.a ++ (codes "\",\"X\":\"" ++ (hex2 c.x ++ (codes "\",\"Y\":\"" ++ (hex2 c.y
    ++ (codes "\",\"S\":\"" ++ (hex2 c.s ++ (codes "\",\"P\":\"" ++ (hex2 c.p ++ (codes "\",\"PC\":\"" ++ (hex4 c.pc ++ codes "\"}")))))))))))

-- The place of the beam: the scanline of the frame, and the cycle of that.
abbrev pub beam_text : Notation → ℕ → ℕ → List ℕ
beam_text Lines scanline cycle = codes "beam: scanline " ++ (decimal scanline ++ (codes ", cycle " ++ (decimal cycle ++ 10 ∷ [])))
beam_text Json scanline cycle = codes ",\"scanline\":" ++ (decimal scanline ++ (codes ",\"cycle\":" ++ decimal cycle))

-- What a frame left that faults: the registers, and where the beam is.
abbrev pub left_text : Notation → Option LeftState → List ℕ
left_text notation None = []
left_text notation (Some left) = registers_text notation (registers_of left.state) ++ beam_text notation left.scanline (line_cycle_of left.state)

-- What is said after a false checkpoint of this number and frame, where the segments have these signs: what differs, where else
-- the run is in the claimed state, the signs of segments and of claims, a sentence about them, and whether one frame's input more or less
-- leads to the claim.
abbrev pub false_text : Notation → MovieData → ℕ → ℕ → List Sign → List ℕ
false_text notation m number frame signs =
    claim_text notation m.cartridge (slice_get m.checkpoints (number - 1)) (run m m.start 0 frame)
    ++ (place_text notation m (slice_get m.checkpoints (number - 1))
    ++ (signs_text notation (codes "segments") signs ++ (signs_text notation (codes "claims") (claim_signs m)
    ++ (reason_text notation (sentence_in m number signs) ++ trial_text notation m number frame (slice_get m.checkpoints (number - 1))))))

-- What is said after a fault in this frame: where it is, and the signs.
abbrev pub halt_text : Notation → MovieData → ℕ → List Sign → List ℕ
halt_text notation m frame signs = left_text notation (left_at m frame) ++ signs_text notation (codes "segments") signs

-- What is said of a movie with this verdict: of a genuine one nothing, since each of its segments passes.
abbrev pub HasFailure : Notation → MovieData → Verdict → List ℕ → Type 0
HasFailure notation m (Genuine kept) text = text ≡ []
HasFailure notation m (FalseCheckpoint number frame) text = (signs : List Sign) × AreSigns m signs × (text ≡ false_text notation m number frame signs)
HasFailure notation m (Fault frame kind) text = (signs : List Sign) × AreSigns m signs × (text ≡ halt_text notation m frame signs)
