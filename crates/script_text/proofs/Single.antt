-- Lines have one reading.
use Rattle.std.proofs.Common.{◌≡◌, ◌<◌, ◌≤◌, ◌^◌, ℕ, List, [], ◌∷◌, ◌++◌, refl, ap, sym, ◌∙◌, subst, arith, inl, inr}
use Rattle.std.specs.Prelude.{codes}
use Rattle.std.specs.Fmt.{decimal}
use Rattle.std.proofs.lemmas.List.{append_cancel_left}
use Rattle.std.proofs.lemmas.Fmt.{decimal_injective}
use Rattle.std.proofs.lemmas.Option.{some_pair_parts}
use Rattle.fare_law.specs.declared.rows.TextLine.{TextLine}
use Rattle.script_text.specs.declared.lines.Counts.{Counts}
use Rattle.script_text.specs.declared.lines.Script.{Script}
use Rattle.script_text.specs.declared.lines.ScriptLine.{ScriptLine}
use Rattle.script_text.specs.declared.lines.ScriptLine.TheVariants.{Search, Await}
use Rattle.script_text.specs.Numbers.{IsNumberAfter}
use Rattle.script_text.specs.Laws.{OneScript, ScriptOrFault, OneFault}
use Rattle.script_text.specs.Script.{Spells, SpellsNone, SpellsEach, FirstBad, counts}
use Rattle.script_text.proofs.NumberLemmas.{one_number}
use Rattle.script_text.proofs.OrderLemmas.{cut_after}

record AreSmall (c : Counts) : Type 0 where
  desks : c.desks < 2 ^ 32
  later : c.later < 2 ^ 32
  requests : c.requests < 2 ^ 32

same_number : (m n high : ℕ) → m ≤ high → n ≤ high → high < 2 ^ 32 → decimal m ≡ decimal n → m ≡ n
same_number m n high k l small e = decimal_injective m n (omega (arith, k, small)) (omega (arith, l, small)) e

-- a line's number and what follows its space
same_parts : (d e high : ℕ) (text x y : List ℕ) → high < 2 ^ 32 → d ≤ high → e ≤ high → text ≡ decimal d ++ 32 ∷ x → text ≡ decimal e ++ 32 ∷ y → (d ≡ e) × (x ≡ y)
same_parts d e high text x y small k l h g =
    let cut = some_pair_parts (decimal d) (decimal e) x y (sym (cut_after d text x (omega (arith, small, k)) h) ∙ cut_after e text y (omega (arith, small, l)) g) in
    (same_number d e high k l small cut.0, cut.1)

-- a text spells one script line
one_line : (c : Counts) (text : List ℕ) (s t : ScriptLine) → AreSmall c → Spells c text s → Spells c text t → s ≡ t
one_line c text (Search d r) (Search e q) small h k =
    let cut = same_parts d e c.desks text (codes "search " ++ decimal r) (codes "search " ++ decimal q) small.desks h.within.0.1 k.within.0.1 h.written k.written in
    let b : r ≡ q = same_number r q c.requests h.within.1.1 k.within.1.1 small.requests (append_cancel_left (codes "search ") (decimal r) (decimal q) cut.1) in
    ap (λ x. Search x r) cut.0 ∙ ap (λ x. Search e x) b
one_line c text (Search d r) (Await e n) small h k =
    let cut = same_parts d e c.desks text (codes "search " ++ decimal r) (codes "wait " ++ decimal n) small.desks h.within.0.1 k.within.0.1 h.written k.written in
    let a : ◌≡◌ {A = ℕ} 115 119 = cc in
    absurd (omega (arith, a))
one_line c text (Await d m) (Search e q) small h k =
    let cut = same_parts d e c.desks text (codes "wait " ++ decimal m) (codes "search " ++ decimal q) small.desks h.within.0.1 k.within.0.1 h.written k.written in
    let a : ◌≡◌ {A = ℕ} 119 115 = cc in
    absurd (omega (arith, a))
one_line c text (Await d m) (Await e n) small h k =
    let cut = same_parts d e c.desks text (codes "wait " ++ decimal m) (codes "wait " ++ decimal n) small.desks h.within.0.1 k.within.0.1 h.written k.written in
    let b : m ≡ n = same_number m n c.later h.within.1.1 k.within.1.1 small.later (append_cancel_left (codes "wait ") (decimal m) (decimal n) cut.1) in
    ap (λ x. Await x m) cut.0 ∙ ap (λ x. Await e x) b

same_lines : (c : Counts) (lines : List TextLine) (ss ts : List ScriptLine) → AreSmall c → SpellsEach c lines ss → SpellsEach c lines ts → ss ≡ ts
same_lines c [] [] [] small h k = refl
same_lines c [] [] (t ∷ ts) small h k = absurd k
same_lines c [] (s ∷ ss) ts small h k = absurd h
same_lines c (x ∷ xs) [] ts small h k = absurd h
same_lines c (x ∷ xs) (s ∷ ss) [] small h k = absurd k
same_lines c (x ∷ xs) (s ∷ ss) (t ∷ ts) small h k =
    ap (λ z. z ∷ ss) (one_line c x.bytes s t small h.0 k.0) ∙ ap (λ z. t ∷ z) (same_lines c xs ss ts small h.1 k.1)

same_desks : (text : List ℕ) (m n : ℕ) → IsNumberAfter (codes "desks ") 1 8 text m → IsNumberAfter (codes "desks ") 1 8 text n → m ≡ n
same_desks text m n = one_number (codes "desks ") text 1 8 1 8 m n (omega arith) (omega arith)

pub one_script : OneScript
one_script later requests [] s t l r h k = absurd h
one_script later requests (first ∷ rest) s t l r h k =
    let d : s.desks ≡ t.desks = same_desks first.bytes s.desks t.desks h.0 k.0 in
    let each : SpellsEach (counts t.desks later requests) rest s.lines = subst (λ n. SpellsEach (counts n later requests) rest s.lines) d h.1 in
    let small : AreSmall (counts t.desks later requests) = record { desks = omega (arith, k.0.range); later = l; requests = r } in
    let e : s.lines ≡ t.lines = same_lines (counts t.desks later requests) rest s.lines t.lines small each k.1 in
    let same : ◌≡◌ {A = Script} (record { desks = s.desks; lines = s.lines }) (record { desks = t.desks; lines = t.lines }) = cc in
    same

-- lines that spell script lines have none that spells nothing
none_bad : (c : Counts) (before : List TextLine) (bad : TextLine) (rest : List TextLine) (ss : List ScriptLine) → SpellsEach c (before ++ bad ∷ rest) ss → SpellsNone c bad.bytes → ⊥
none_bad c [] bad rest [] h none = absurd h
none_bad c [] bad rest (s ∷ ss) h none = none s h.0
none_bad c (x ∷ before) bad rest [] h none = absurd h
none_bad c (x ∷ before) bad rest (s ∷ ss) h none = none_bad c before bad rest ss h.1 none

not_both : (c : Counts) (lines : List TextLine) (ss : List ScriptLine) (number : ℕ) → SpellsEach c lines ss → FirstBad c lines number → ⊥
not_both c lines ss number h f = none_bad c f.before f.bad f.rest ss (subst (λ (xs : List TextLine). SpellsEach c xs ss) f.order h) f.none

pub script_or_fault : ScriptOrFault
script_or_fault later requests [] s number h f = absurd h
script_or_fault later requests (first ∷ rest) s number h (inl f) = f.0 s.desks h.0
script_or_fault later requests (first ∷ rest) s number h (inr f) =
    let d : s.desks ≡ f.0 = same_desks first.bytes s.desks f.0 h.0 f.1 in
    not_both (counts f.0 later requests) rest s.lines number (subst (λ n. SpellsEach (counts n later requests) rest s.lines) d h.1) f.2

-- one line is the first that spells nothing
same_bad : (c : Counts) (xs : List TextLine) (x : TextLine) (xr : List TextLine) (ys : List TextLine) (y : TextLine) (yr : List TextLine) (ss ts : List ScriptLine)
    → xs ++ x ∷ xr ≡ ys ++ y ∷ yr → SpellsEach c xs ss → SpellsEach c ys ts → SpellsNone c x.bytes → SpellsNone c y.bytes → x ≡ y
same_bad c [] x xr [] y yr ss ts e h k m n = cc
same_bad c [] x xr (b ∷ ys) y yr ss [] e h k m n = absurd k
same_bad c [] x xr (b ∷ ys) y yr ss (t ∷ ts) e h k m n = let z : b ≡ x = cc in absurd (m t (subst (λ (w : TextLine). Spells c w.bytes t) z k.0))
same_bad c (a ∷ xs) x xr [] y yr [] ts e h k m n = absurd h
same_bad c (a ∷ xs) x xr [] y yr (s ∷ ss) ts e h k m n = let z : a ≡ y = cc in absurd (n s (subst (λ (w : TextLine). Spells c w.bytes s) z h.0))
same_bad c (a ∷ xs) x xr (b ∷ ys) y yr [] ts e h k m n = absurd h
same_bad c (a ∷ xs) x xr (b ∷ ys) y yr (s ∷ ss) [] e h k m n = absurd k
same_bad c (a ∷ xs) x xr (b ∷ ys) y yr (s ∷ ss) (t ∷ ts) e h k m n =
    let rest : xs ++ x ∷ xr ≡ ys ++ y ∷ yr = cc in same_bad c xs x xr ys y yr ss ts rest h.1 k.1 m n

same_first : (c : Counts) (lines : List TextLine) (m n : ℕ) → FirstBad c lines m → FirstBad c lines n → m ≡ n
same_first c lines m n f g =
    f.here ∙ ap (λ (l : TextLine). l.line) (same_bad c f.before f.bad f.rest g.before g.bad g.rest f.ss g.ss (sym f.order ∙ g.order) f.good g.good f.none g.none) ∙ sym g.here

pub one_fault : OneFault
one_fault later requests [] m n f g = f ∙ sym g
one_fault later requests (first ∷ rest) m n (inl f) (inl g) = f.1 ∙ sym g.1
one_fault later requests (first ∷ rest) m n (inl f) (inr g) = absurd (f.0 g.0 g.1)
one_fault later requests (first ∷ rest) m n (inr f) (inl g) = absurd (g.0 f.0 f.1)
one_fault later requests (first ∷ rest) m n (inr f) (inr g) =
    let d : f.0 ≡ g.0 = same_desks first.bytes f.0 g.0 f.1 g.1 in
    same_first (counts g.0 later requests) rest m n (subst (λ k. FirstBad (counts k later requests) rest m) d f.2) g.2
