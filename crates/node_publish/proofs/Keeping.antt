-- What a walk over the home cells of a key knows.
use Rattle.std.proofs.Common.{◌≡◌, ◌≢◌, ℕ, ◌+◌, ◌<◌, ◌∙◌, ap, sym, subst, List, length, Some, inl, inr, ⊎_elim}
use Rattle.fare_component.specs.Keys.{Asked, IsKey, IsLeg, IsRow, asked}
use Rattle.fare_law.specs.declared.limits.TheConstants.{MOST_FLIGHTS_OF_A_COMPONENT}
use Rattle.fare_law.specs.declared.market.OfferKey.{OfferKey}
use Rattle.fare_law.specs.Lists.{Each}
use Rattle.fare_law.specs.RuleLimits.{IsListOf}
use Rattle.fare_law.specs.Sheets.{IsSheet}
use Rattle.node_publish.specs.Homes.{Known, at_cell, at_home, home, homes, Keeps, ReadsAt, IsTaken, Knows, HasNoRoom, StaysPublished}
use Rattle.law_lemmas.proofs.Numbers.{here_or_before}

pub keeps_trans : (a b c : Known) → Keeps a b → Keeps b c → Keeps a c
keeps_trans a b c p q = record { cells = q.cells ∙ p.cells; kept = λ i k e. q.kept i k (p.kept i k e) }

-- what is known in a home cell stays known there
pub moved : (p q : Known) → Keeps p q → (a : Asked) (j : ℕ) (x : Asked) → at_home p a j ≡ Some x → at_home q a j ≡ Some x
moved p q h a j x e = subst (λ (m : ℕ). at_cell q m ≡ Some x) (ap (λ l. home (length l) a j) (sym h.cells)) (h.kept (home (length p.cells) a j) x e)

pub taken_stays : (p q : Known) → Keeps p q → (a : Asked) (j : ℕ) → IsTaken p a j → IsTaken q a j
taken_stays p q h a j t = record { other = t.other; here = moved p q h a j t.other t.here; differs = t.differs }

-- the home cells before the n-th hold nodes of other keys
pub record TakenBelow (p : Known) (a : Asked) (n : ℕ) : Type 0 where
  pub each : (j : ℕ) → j < n → IsTaken p a j

-- one more home cell holds a node of another key
pub taken_more : (p q : Known) (a found : Asked) (n at : ℕ) (names : List ℕ) → p.cells ≡ names → TakenBelow p a n → ReadsAt p q at (Some found) → at ≡ home (length names) a n → found ≢ a → TakenBelow q a (n + 1)
taken_more p q a found n at names own h r is other = record {
  each = λ j less. ⊎_elim (λ (before : j < n). taken_stays p q r.keeps a j (h.each j before))
      (λ (e : j ≡ n). record { other = found; here = subst (λ (m : ℕ). at_cell q m ≡ Some found) (is ∙ ap (λ l. home (length l) a n) (sym (r.keeps.cells ∙ own)) ∙ ap (home (length q.cells) a) (sym e)) r.here; differs = other })
      (here_or_before j n less);
}

pub knows_stays : (p q : Known) → Keeps p q → (a : Asked) → Knows p a → Knows q a
knows_stays p q h a t = record { place = t.place; within = subst (λ (l : List ℕ). t.place < homes (length l)) (sym h.cells) t.within; here = moved p q h a t.place a t.here }

pub no_room_stays : (p q : Known) → Keeps p q → (a : Asked) → HasNoRoom p a → HasNoRoom q a
no_room_stays p q h a f = record { each = λ j less. taken_stays p q h a j (f.each j (subst (λ (l : List ℕ). j < homes (length l)) h.cells less)) }

pub published_stays : (p q : Known) → Keeps p q → StaysPublished p q
published_stays p q h = record { each = λ a. ⊎_elim (λ (t : Knows p a). inl (knows_stays p q h a t)) (λ (f : HasNoRoom p a). inr (no_room_stays p q h a f)) }

-- a key that has no room is not known
pub not_both : (p : Known) (a : Asked) → HasNoRoom p a → Knows p a → ⊥
not_both p a f t = let r = f.each t.place t.within in r.differs (cc (r.here, t.here))

-- the node that was found in a home cell is known there
pub knows_here : (p q : Known) (a found : Asked) (j at : ℕ) (names : List ℕ) → p.cells ≡ names → ReadsAt p q at (Some found) → at ≡ home (length names) a j → j < homes (length names) → found ≡ a → Knows q a
knows_here p q a found j at names own r is less same = record {
  place = j;
  within = subst (λ (l : List ℕ). j < homes (length l)) (sym (r.keeps.cells ∙ own)) less;
  here = subst (λ (m : ℕ). at_cell q m ≡ Some found) (is ∙ ap (λ l. home (length l) a j) (sym (r.keeps.cells ∙ own))) r.here ∙ ap Some same;
}

-- a key that asks for the same is one too
pub key_like : (k l : OfferKey) → asked k ≡ asked l → IsKey k → IsKey l
key_like k l e h = record {
  legs = subst (λ (a : Asked). IsListOf MOST_FLIGHTS_OF_A_COMPONENT IsLeg a.legs) e h.legs;
  sheet = subst (λ (a : Asked). IsSheet a.sheet.from a.sheet.to a.sheet.rows) e h.sheet;
  rows = subst (λ (a : Asked). Each IsRow a.sheet.rows) e h.rows;
}
