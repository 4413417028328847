-- One filing more was judged, and how many were. Given on to the crates above.
use Rattle.std.proofs.Common.{◌≡◌, ◌∙◌, ◌<◌, ℕ, suc, ◌+◌, List, [], ◌∷◌, ◌++◌, map, take, get_or, length, refl, subst, sym, ap, arith}
use Rattle.std.proofs.lemmas.List.{length-append, map-append, take_more}
use Rattle.fare_law.specs.Book.{Timetable}
use Rattle.fare_law.specs.declared.filings.Filing.{Filing}
use Rattle.serve_desks.specs.Judging.{Judged, OneJudged, accepted}
use Rattle.serve_desks.specs.declared.log.Filed.{Filed}
use Rattle.serve_desks.specs.declared.log.Filed.TheVariants.{Accepted, Refused}

judged_more : (t : Timetable) (start : List Filing) (fs : List Filing) (js : List Filed) (mid : List Filing) (f : Filing) (j : Filed) (end : List Filing) → Judged t start fs js mid → OneJudged t mid f j end → Judged t start (fs ++ f ∷ []) (js ++ j ∷ []) end
judged_more t start [] [] mid f (Accepted n) end h o = subst (λ s. OneJudged t s f (Accepted n) end) h o
judged_more t start [] [] mid f (Refused why) end h o = subst (λ s. OneJudged t s f (Refused why) end) h o
judged_more t start [] (k ∷ js) mid f j end h o = absurd h
judged_more t start (g ∷ fs) [] mid f j end h o = absurd h
judged_more t start (g ∷ fs) (Accepted n ∷ js) mid f j end h o = (h.0, h.1, judged_more t (start ++ g ∷ []) fs js mid f j end h.2 o)
judged_more t start (g ∷ fs) (Refused why ∷ js) mid f j end h o = (h.0, judged_more t start fs js mid f j end h.1 o)

-- the same in a loop over filings that are shared
pub judged_next : {X : Type 0} (value : X → Filing) (t : Timetable) (start : List Filing) (later : List X) (i : ℕ) (x : X) (js new : List Filed) (mid : List Filing) (j : Filed) (end : List Filing)
    → x ≡ get_or later i x → i < length later → new ≡ js ++ j ∷ [] → Judged t start (map value (take i later)) js mid → OneJudged t mid (value x) j end → Judged t start (map value (take (i + 1) later)) new end
judged_next value t start later i x js new mid j end is less pushed h o =
    subst (λ l. Judged t start (map value (take (i + 1) later)) l end) (sym pushed)
    (subst (λ fs. Judged t start fs (js ++ j ∷ []) end)
    (sym (ap (map value) (take_more later i x less) ∙ map-append value (take i later) (get_or later i x ∷ []) ∙ ap (λ y. map value (take i later) ++ value y ∷ []) (sym is)))
    (judged_more t start (map value (take i later)) js mid (value x) j end h o))

-- what came of the filing has so many entries more as filings were accepted
pub counted : (t : Timetable) (start later : List Filing) (filed : List Filed) (end : List Filing) → Judged t start later filed end → length end ≡ length start + accepted filed
counted t start [] [] end h = let e = ap length h in omega (arith, e)
counted t start [] (j ∷ js) end h = absurd h
counted t start (f ∷ fs) [] end h = absurd h
counted t start (f ∷ fs) (Accepted n ∷ js) end h = let e = counted t (start ++ f ∷ []) fs js end h.2 in omega (arith, e, length-append start (f ∷ []))
counted t start (f ∷ fs) (Refused w ∷ js) end h = counted t start fs js end h.1

pub judged_length : (t : Timetable) (start later : List Filing) (filed : List Filed) (end : List Filing) → Judged t start later filed end → length filed ≡ length later
judged_length t start [] [] end h = refl
judged_length t start [] (j ∷ js) end h = absurd h
judged_length t start (f ∷ fs) [] end h = absurd h
judged_length t start (f ∷ fs) (Accepted n ∷ js) end h = ap suc (judged_length t (start ++ f ∷ []) fs js end h.2)
judged_length t start (f ∷ fs) (Refused w ∷ js) end h = ap suc (judged_length t start fs js end h.1)
