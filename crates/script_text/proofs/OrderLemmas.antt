-- A line that is cut at its first space spells what its two parts spell.
use Rattle.std.proofs.Common.{◌≡◌, ◌≢◌, ◌<◌, ◌^◌, ℕ, List, [], ◌∷◌, ◌++◌, Some, None, ap, sym, ◌∙◌, arith}
use Rattle.std.proofs.lemmas.Option.{some_pair_parts}
use Rattle.std.specs.Int.{IsInRange}
use Rattle.std.specs.Prelude.{codes}
use Rattle.std.specs.Fmt.{decimal}
use Rattle.law_lemmas.proofs.EachOne.{each_by}
use Rattle.script_text.specs.declared.lines.Counts.{Counts}
use Rattle.script_text.specs.declared.lines.ScriptLine.{ScriptLine}
use Rattle.script_text.specs.declared.lines.ScriptLine.TheVariants.{Search, Await}
use Rattle.script_text.specs.Numbers.{IsNumberAfter, IsNoNumberAfter}
use Rattle.script_text.specs.Script.{Spells}
use Rattle.word_text.specs.Words.{cut_at}
use Rattle.word_text.proofs.CutLemmas.{cut_of, cut_read}
use Rattle.word_text.proofs.NumberLemmas.{digits_are}

-- no digit is a space, so that a line which begins with a number and a space is cut there
pub cut_after : (d : ℕ) (text rest : List ℕ) → d < 2 ^ 32 → text ≡ decimal d ++ 32 ∷ rest → cut_at 32 text ≡ Some (decimal d, rest)
cut_after d text rest small e = cut_of 32 text (decimal d) rest e (each_by (IsInRange 48 57) (λ b. b ≢ 32) (decimal d) (λ b r e. omega (arith, r, e)) (digits_are d (omega (arith, small))))

parts : (d : ℕ) (text a o rest : List ℕ) → d < 2 ^ 32 → cut_at 32 text ≡ Some (a, o) → text ≡ decimal d ++ 32 ∷ rest → (a ≡ decimal d) × (o ≡ rest)
parts d text a o rest small e w = some_pair_parts a (decimal d) o rest (sym e ∙ cut_after d text rest small w)

-- without a space nothing is spelled
pub no_cut : (c : Counts) (text : List ℕ) (s : ScriptLine) → c.desks < 2 ^ 32 → cut_at 32 text ≡ None → Spells c text s → ⊥
no_cut c text (Search d r) small none p = let e = cut_after d text (codes "search " ++ decimal r) (omega (arith, small, p.within.0)) p.written in absurd (cc)
no_cut c text (Await d n) small none p = let e = cut_after d text (codes "wait " ++ decimal n) (omega (arith, small, p.within.0)) p.written in absurd (cc)

-- the part before the first space has to be a desk
pub no_desk : (c : Counts) (text a o : List ℕ) (s : ScriptLine) → c.desks < 2 ^ 32 → cut_at 32 text ≡ Some (a, o) → IsNoNumberAfter [] 1 c.desks a → Spells c text s → ⊥
no_desk c text a o (Search d r) small e none p =
    none d (record { range = p.within.0; written = (parts d text a o (codes "search " ++ decimal r) (omega (arith, small, p.within.0)) e p.written).0 })
no_desk c text a o (Await d n) small e none p =
    none d (record { range = p.within.0; written = (parts d text a o (codes "wait " ++ decimal n) (omega (arith, small, p.within.0)) e p.written).0 })

-- the part after it has to be a search or a wait
pub no_order : (c : Counts) (text a o : List ℕ) (s : ScriptLine) → c.desks < 2 ^ 32 → cut_at 32 text ≡ Some (a, o) → IsNoNumberAfter (codes "search ") 1 c.requests o → IsNoNumberAfter (codes "wait ") 0 c.later o → Spells c text s → ⊥
no_order c text a o (Search d r) small e search wait p =
    search r (record { range = p.within.1; written = (parts d text a o (codes "search " ++ decimal r) (omega (arith, small, p.within.0)) e p.written).1 })
no_order c text a o (Await d n) small e search wait p =
    wait n (record { range = p.within.1; written = (parts d text a o (codes "wait " ++ decimal n) (omega (arith, small, p.within.0)) e p.written).1 })

-- where they are so, this is spelled
pub is_search : (c : Counts) (text a o : List ℕ) (d r : ℕ) → cut_at 32 text ≡ Some (a, o) → IsNumberAfter [] 1 c.desks a d → IsNumberAfter (codes "search ") 1 c.requests o r → Spells c text (Search d r)
is_search c text a o d r e h k = record { within = (h.range, k.range); written = (cut_read 32 text (a, o) e).0 ∙ ap (λ t. t ++ 32 ∷ o) h.written ∙ ap (λ t. decimal d ++ 32 ∷ t) k.written }

pub is_wait : (c : Counts) (text a o : List ℕ) (d n : ℕ) → cut_at 32 text ≡ Some (a, o) → IsNumberAfter [] 1 c.desks a d → IsNumberAfter (codes "wait ") 0 c.later o n → Spells c text (Await d n)
is_wait c text a o d n e h k = record { within = (h.range, k.range); written = (cut_read 32 text (a, o) e).0 ∙ ap (λ t. t ++ 32 ∷ o) h.written ∙ ap (λ t. decimal d ++ 32 ∷ t) k.written }
