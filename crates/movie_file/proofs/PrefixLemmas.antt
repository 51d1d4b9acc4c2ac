-- What begins with a list begins with each prefix of it.
use Rattle.std.proofs.Common.{◌≡◌, ℕ, List, ◌++◌, length, take, drop, refl, sym, ap, ◌∙◌}
use Rattle.std.proofs.Common.{append_assoc}
use Rattle.std.proofs.lemmas.List.{take_at, take-append-drop}

pub prefix_then : (a b c m : List ℕ) → b ≡ a ++ m → take (length b) c ≡ b → take (length a) c ≡ a
prefix_then a b c m e h =
    let c-is : c ≡ a ++ (m ++ drop (length b) c) =
    sym (take-append-drop (length b) c) ∙ ap (λ (w : List ℕ). w ++ drop (length b) c) (h ∙ e) ∙ append_assoc a m (drop (length b) c) in
    ap (take (length a)) c-is ∙ take_at a (m ++ drop (length b) c) (length a) refl
