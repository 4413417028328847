-- The text of the day of a seat row.
use Rattle.std.proofs.Common.{◌≡◌, ℕ, ℤ, zero, suc, false, List, [], ◌∷◌, Some, None, refl, sym, subst, ◌∙◌, arith, bytes_eq, codes}
use Rattle.std.specs.Str.{IsAscii}
use Rattle.std.proofs.lemmas.Slice.Eq.{bytes_eq-Decides}
use Rattle.market_time.specs.Dates.{day_spelled}
use Rattle.name_text.specs.Seats.{seat_day_of}
use Rattle.law_lemmas.proofs.Tests.{not_true}

no_star : day_spelled (codes "*") ≡ None
unfolding day_spelled
no_star = refl

other_text : (text : List ℕ) (day : ℤ) → day_spelled text ≡ Some day → bytes_eq text (codes "*") ≡ false
other_text text day e =
    not_true (bytes_eq text (codes "*")) (λ t. let same = (bytes_eq-Decides text (codes "*")).0 t in
    let h : None ≡ Some day = sym no_star ∙ subst (λ (x : List ℕ). day_spelled x ≡ Some day) same e in absurd (cc))

-- a date is the day of a seat row
pub date_again : (text : List ℕ) (day : ℤ) → day_spelled text ≡ Some day → seat_day_of text ≡ Some (Some day)
date_again text day e = rw (other_text text day e, e) refl

pub star_is_ascii : IsAscii (42 ∷ [])
star_is_ascii zero = omega arith
star_is_ascii (suc i) = omega arith

pub ruleset date_rules = (date_again, star_is_ascii)
