-- The history once more: where it ends, and which texts are made on the way.
use Rattle.std.proofs.Common.{◌≡◌, ◌<◌, ◌≤◌, ◌+◌, inl, inr, ◌∙◌, ℕ, List, [], ◌∷◌, ◌++◌, length, drop, take, get_or, map, slice_index_or, slice_set, refl, ap, sym, subst, append_assoc, append-nil, arith}
use Rattle.std.proofs.lemmas.List.{drop_more, get_or-set_other, get_or-set_same, get_or_default, length-append, take_at}
use Rattle.search_desk.specs.Outcomes.{version_of}
use Rattle.fare_law.specs.Book.{Book, Timetable}
use Rattle.fare_law.specs.declared.filings.Filing.{Filing}
use Rattle.fare_versions.specs.Filings.{IsFaultless}
use Rattle.serve_desks.specs.Judging.{Judged}
use Rattle.serve_desks.specs.declared.log.Filed.{Filed}
use Rattle.serve_desks.specs.declared.log.Filed.TheVariants.{Accepted, Refused}
use Rattle.serve_desks.specs.declared.log.Reply.{Reply}
use Rattle.serving.specs.Replaying.{HasText, HasTexts, HasTextsBetween, IsJudged, IsNext, KeepsOthers, history_after}
use Rattle.law_lemmas.proofs.Numbers.{here_or_before}

-- what came of the filing is these entries and the later filings that were accepted
pub judged_is : (t : Timetable) (start later : List Filing) (filed : List Filed) (end : List Filing) → Judged t start later filed end → end ≡ history_after start later filed
judged_is t start [] [] end h = h
judged_is t start [] (j ∷ js) end h = absurd h
judged_is t start (f ∷ fs) [] end h = absurd h
judged_is t start (f ∷ fs) (Accepted n ∷ js) end h = judged_is t (start ++ f ∷ []) fs js end h.2
judged_is t start (f ∷ fs) (Refused w ∷ js) end h = judged_is t start fs js end h.1

-- what was judged from some entries on begins with them
pub judged_begins : (t : Timetable) (start later : List Filing) (filed : List Filed) (end : List Filing) → Judged t start later filed end → take (length start) end ≡ start
judged_begins t start later filed end h = let (more, e) = begins t start later filed end h in ap (take (length start)) e ∙ take_at start more (length start) refl
  where
    begins : (t : Timetable) (start later : List Filing) (filed : List Filed) (end : List Filing) → Judged t start later filed end → (more : List Filing) × (end ≡ start ++ more)
    begins t start [] [] end h = ([], h ∙ sym (append-nil start))
    begins t start [] (j ∷ js) end h = absurd h
    begins t start (f ∷ fs) [] end h = absurd h
    begins t start (f ∷ fs) (Accepted n ∷ js) end h = let (more, e) = begins t (start ++ f ∷ []) fs js end h.2 in (f ∷ more, e ∙ append_assoc start (f ∷ []) more)
    begins t start (f ∷ fs) (Refused w ∷ js) end h = begins t start fs js end h.1

-- the first of those that are left was judged
pub judged_here : {X : Type 0} (value : X → Filing) (t : Timetable) (start : List Filing) (later : List X) (filed : List Filed) (at : ℕ) (x dx : X) (how dh : Filed) (end : List Filing)
    → at < length later → at < length filed → x ≡ get_or later at dx → how ≡ get_or filed at dh → Judged t start (map value (drop at later)) (drop at filed) end
    → Judged t start (value x ∷ map value (drop (at + 1) later)) (how ∷ drop (at + 1) filed) end
judged_here {X} value t start later filed at x dx how dh end ll lf ix ih h =
    let xs : drop at later ≡ x ∷ drop (at + 1) later = drop_more later at dx ll ∙ ap (λ (y : X). y ∷ drop (at + 1) later) (sym ix) in
    let js : drop at filed ≡ how ∷ drop (at + 1) filed = drop_more filed at dh lf ∙ ap (λ (y : Filed). y ∷ drop (at + 1) filed) (sym ih) in
    subst (λ ys. Judged t start (map value ys) (how ∷ drop (at + 1) filed) end) xs (subst (λ ks. Judged t start (map value (drop at later)) ks end) js h)

pub is_judged : (b : Book) (t : Timetable) (f : Filing) (fs : List Filing) (how : Filed) (js : List Filed) (end : List Filing) → b.timetable ≡ t → Judged t b.entries (f ∷ fs) (how ∷ js) end → IsJudged b f how
is_judged b t f fs (Accepted n) js end same h = subst (λ (u : Timetable). IsFaultless (version_of u b.entries) f) (sym same) h.0
is_judged b t f fs (Refused why) js end same h = tt

-- the version of a beginning of the history
version_is : (b : Book) (t : Timetable) (filings : List Filing) (n : ℕ) → b.timetable ≡ t → take (length b.entries) filings ≡ b.entries → n ≡ length b.entries → b ≡ version_of t (take n filings)
version_is b t filings n same begins is =
    ap (λ (u : Timetable). version_of u b.entries) same ∙ ap (λ (fs : List Filing). version_of t fs) (sym begins ∙ ap (λ m. take m filings) (sym is))

-- the texts of the opening version are made
pub texts_first : (b : Book) (filings : List Filing) (replies : List Reply) (texts : List (List ℕ)) → take (length b.entries) filings ≡ b.entries → HasTexts b replies texts
    → HasTextsBetween b.timetable filings (length b.entries) (length b.entries + 1) replies texts
texts_first b filings replies texts begins made = record {
  each = λ i d less from below.
      let is : (slice_index_or replies i d).number ≡ length b.entries = omega (arith, from, below) in
      subst (λ (v : Book). HasText v (slice_index_or replies i d).body (slice_index_or texts i [])) (version_is b b.timetable filings (slice_index_or replies i d).number refl begins is) (made.each i d less is);
}

-- the texts of one version more are made
texts_more : (b : Book) (t : Timetable) (filings : List Filing) (from : ℕ) (replies : List Reply) (old new : List (List ℕ)) → b.timetable ≡ t → take (length b.entries) filings ≡ b.entries
    → HasTexts b replies new → KeepsOthers (length b.entries) replies old new → HasTextsBetween t filings from (length b.entries) replies old → HasTextsBetween t filings from (length b.entries + 1) replies new
texts_more b t filings from replies old new same begins made kept so_far = record {
  each = λ i d less late below. elim (here_or_before (slice_index_or replies i d).number (length b.entries) below) [
    | inl before ↦
        subst (HasText (version_of t (take (slice_index_or replies i d).number filings)) (slice_index_or replies i d).body) (sym (kept.each i d less (λ e. absurd (omega (arith, e, before))))) (so_far.each i d less late before)
    | inr is ↦
        subst (λ (v : Book). HasText v (slice_index_or replies i d).body (slice_index_or new i [])) (version_is b t filings (slice_index_or replies i d).number same begins is) (made.each i d less is)
  ];
}

-- what holds while the history is gone through: after these filings and before the others
pub record Reached (t : Timetable) (filings : List Filing) (from : ℕ) (replies : List Reply) (texts : List (List ℕ)) (b : Book) (later : List Filing) (filed : List Filed) : Type 0 where
  pub same : b.timetable ≡ t
  pub left : Judged t b.entries later filed filings
  pub texts_made : HasTextsBetween t filings from (length b.entries + 1) replies texts

pub first_reached : (b : Book) (later : List Filing) (filed : List Filed) (filings : List Filing) (replies : List Reply) (texts : List (List ℕ)) → Judged b.timetable b.entries later filed filings → HasTexts b replies texts
    → Reached b.timetable filings (length b.entries) replies texts b later filed
first_reached b later filed filings replies texts h made = record { same = refl; left = h; texts_made = texts_first b filings replies texts (judged_begins b.timetable b.entries later filed filings h) made }

pub next_reached : (t : Timetable) (filings : List Filing) (from : ℕ) (replies : List Reply) (old new : List (List ℕ)) (b next : Book) (f : Filing) (later : List Filing) (how : Filed) (filed : List Filed)
    → Reached t filings from replies old b (f ∷ later) (how ∷ filed) → IsNext b f how replies old new next → Reached t filings from replies new next later filed
next_reached t filings from replies old new b next f later (Accepted n) filed r (is, made, kept) =
    let same : next.timetable ≡ t = ap (λ (v : Book). v.timetable) is ∙ r.same in
    let entries : next.entries ≡ b.entries ++ f ∷ [] = ap (λ (v : Book). v.entries) is in
    let left : Judged t next.entries later filed filings = subst (λ (es : List Filing). Judged t es later filed filings) (sym entries) r.left.2 in
    let count : length next.entries ≡ length b.entries + 1 = ap length entries ∙ length-append b.entries (f ∷ []) in
    record {
      same = same;
      left = left;
      texts_made = texts_more next t filings from replies old new same (judged_begins t next.entries later filed filings left) made kept
          (subst (λ m. HasTextsBetween t filings from m replies old) (sym count) r.texts_made);
    }
next_reached t filings from replies old new b next f later (Refused why) filed r (is, as_before) =
    subst (λ (v : Book). Reached t filings from replies new v later filed) (sym is)
    (subst (λ xs. Reached t filings from replies xs b later filed) (sym as_before) (record { same = r.same; left = r.left.1; texts_made = r.texts_made }))

-- at the first of the later filings that are left
pub reached_here : {X : Type 0} (value : X → Filing) (t : Timetable) (filings : List Filing) (from : ℕ) (replies : List Reply) (texts : List (List ℕ)) (b : Book) (later : List X) (filed : List Filed) (at : ℕ) (x dx : X) (how dh : Filed)
    → at < length later → at < length filed → x ≡ get_or later at dx → how ≡ get_or filed at dh → Reached t filings from replies texts b (map value (drop at later)) (drop at filed)
    → Reached t filings from replies texts b (value x ∷ map value (drop (at + 1) later)) (how ∷ drop (at + 1) filed)
reached_here value t filings from replies texts b later filed at x dx how dh ll lf ix ih r =
    record { same = r.same; left = judged_here value t b.entries later filed at x dx how dh filings ll lf ix ih r.left; texts_made = r.texts_made }

-- at the end
pub all_reached : (t : Timetable) (filings : List Filing) (from : ℕ) (replies : List Reply) (texts : List (List ℕ)) (b : Book) (filed : List Filed) → Reached t filings from replies texts b [] filed → b.entries ≡ filings
all_reached t filings from replies texts b [] r = sym r.left
all_reached t filings from replies texts b (j ∷ js) r = absurd r.left

-- the texts of one version are made reply by reply
pub record ToldSome (b : Book) (replies : List Reply) (old new : List (List ℕ)) (at : ℕ) : Type 0 where
  pub made : (i : ℕ) (d : Reply) → i < at → (slice_index_or replies i d).number ≡ length b.entries → HasText b (slice_index_or replies i d).body (slice_index_or new i [])
  pub kept : (i : ℕ) (d : Reply) → i < length replies → ((slice_index_or replies i d).number ≡ length b.entries → i < at → ⊥) → slice_index_or new i [] ≡ slice_index_or old i []

pub none_told : (b : Book) (replies : List Reply) (old : List (List ℕ)) → ToldSome b replies old old 0
none_told b replies old = record { made = λ i d less. absurd (omega (arith, less)); kept = λ i d less other. refl }

-- a reply that names the version
pub one_told : (b : Book) (replies : List Reply) (old mid new : List (List ℕ)) (at : ℕ) (r : Reply) (text : List ℕ) → at < length replies → at < length mid → r ≡ get_or replies at r
    → HasText b r.body text → r.number ≡ length b.entries → new ≡ slice_set mid at text → ToldSome b replies old mid at → ToldSome b replies old new (at + 1)
one_told b replies old mid new at r text lr lm is has names e so_far = record {
  made = λ i d less number. elim (here_or_before i at less) [
    | inl before ↦ subst (HasText b (slice_index_or replies i d).body) (sym (other i (λ same. absurd (omega (arith, same, before))))) (so_far.made i d before number)
    | inr same ↦
        subst (λ k. HasText b (slice_index_or replies k d).body (slice_index_or new k [])) (sym same)
        (subst (λ (x : Reply). HasText b x.body (slice_index_or new at [])) (is ∙ get_or_default replies at r d lr) (subst (HasText b r.body) (sym (ap (λ xs. slice_index_or xs at []) e ∙ get_or-set_same mid at text [] lm)) has))
  ];
  kept = λ i d less out. other i (λ same. out (subst (λ k. (slice_index_or replies k d).number ≡ length b.entries) (sym same) (ap (λ (x : Reply). x.number) (sym (get_or_default replies at r d lr) ∙ sym is) ∙ names)) (omega (arith, same)))
      ∙ so_far.kept i d less (λ number before. out number (omega (arith, before)));
}
  where
    other : (i : ℕ) → (i ≡ at → ⊥) → slice_index_or new i [] ≡ slice_index_or mid i []
    other i apart = ap (λ xs. slice_index_or xs i []) e ∙ get_or-set_other mid at i text [] apart

-- one that names another
pub none_more : (b : Book) (replies : List Reply) (old mid : List (List ℕ)) (at : ℕ) (r : Reply) → at < length replies → r ≡ get_or replies at r → (r.number ≡ length b.entries → ⊥)
    → ToldSome b replies old mid at → ToldSome b replies old mid (at + 1)
none_more b replies old mid at r lr is apart so_far = record {
  made = λ i d less number. elim (here_or_before i at less) [
    | inl before ↦ so_far.made i d before number
    | inr same ↦ absurd (apart (ap (λ (x : Reply). x.number) (is ∙ get_or_default replies at r d lr) ∙ subst (λ k. (slice_index_or replies k d).number ≡ length b.entries) same number))
  ];
  kept = λ i d less out. so_far.kept i d less (λ number before. out number (omega (arith, before)));
}

pub all_told : (b : Book) (replies : List Reply) (old new : List (List ℕ)) (at : ℕ) → length replies ≤ at → ToldSome b replies old new at → HasTexts b replies new
all_told b replies old new at past t = record { each = λ i d less number. t.made i d (omega (arith, less, past)) number }

pub others_kept : (b : Book) (replies : List Reply) (old new : List (List ℕ)) (at : ℕ) → ToldSome b replies old new at → KeepsOthers (length b.entries) replies old new
others_kept b replies old new at t = record { each = λ i d less apart. t.kept i d less (λ number before. apart number) }
