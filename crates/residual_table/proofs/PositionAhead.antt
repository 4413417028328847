-- A position that was read is read from its words again, whatever follows them.
use Rattle.std.proofs.Common.{◌≡◌, ℕ, List, [], ◌∷◌, ◌++◌, Some, append_assoc, ap, ◌∙◌}
use Rattle.std.specs.Fmt.{decimal}
use Rattle.std.specs.List.{join_with_byte}
use Rattle.flight_paths.specs.declared.positions.Position.{Position}
use Rattle.residual_keys.specs.ResidualText.{position_words, via_word}
use Rattle.residual_keys.specs.ResidualReading.{position_in}
use Rattle.residual_keys.proofs.ResidualAgain.{position_again}
use Rattle.residual_keys.proofs.ResidualRead.{position_read}
use Rattle.residual_keys.proofs.WordFacts.{Words}

-- the words and a space before what follows
words_before : (a : Position) (rest : List ℕ) → (join_with_byte 32 (position_words a) ++ 32 ∷ []) ++ rest
    ≡ decimal a.slice ++ 32 ∷ (decimal a.leg ++ 32 ∷ (a.place.0 ++ 32 ∷ (via_word a.via ++ 32 ∷ (decimal a.lo ++ 32 ∷ (decimal a.hi ++ 32 ∷ rest)))))
words_before a rest =
    let w5 = decimal a.lo ++ 32 ∷ decimal a.hi in
    let w4 = via_word a.via ++ 32 ∷ w5 in
    let w3 = a.place.0 ++ 32 ∷ w4 in
    let w2 = decimal a.leg ++ 32 ∷ w3 in
    let more = 32 ∷ rest in
    append_assoc (decimal a.slice ++ 32 ∷ w2) (32 ∷ []) rest
    ∙ append_assoc (decimal a.slice) (32 ∷ w2) more
    ∙ ap (λ t. decimal a.slice ++ 32 ∷ t) (append_assoc (decimal a.leg) (32 ∷ w3) more
    ∙ ap (λ t. decimal a.leg ++ 32 ∷ t) (append_assoc a.place.0 (32 ∷ w4) more
    ∙ ap (λ t. a.place.0 ++ 32 ∷ t) (append_assoc (via_word a.via) (32 ∷ w5) more
    ∙ ap (λ t. via_word a.via ++ 32 ∷ t) (append_assoc (decimal a.lo) (32 ∷ decimal a.hi) more))))

pub position_ahead : Words → (text : List ℕ) (p : Position × List ℕ) → position_in text ≡ Some p → (rest : List ℕ)
    → position_in ((join_with_byte 32 (position_words p.0) ++ 32 ∷ []) ++ rest) ≡ Some (p.0, rest)
position_ahead k text p e rest = ap position_in (words_before p.0 rest) ∙ position_again k p.0 rest (position_read k text p e).0
