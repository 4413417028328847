-- Tables to which parts are added one after another: what they have together. Given on to the crates above.
use Rattle.std.proofs.Common.{◌≡◌, ◌⊎◌, ℕ, ◌+◌, ◌<◌, ◌≤◌, List, [], ◌++◌, slice_get, Some, append-nil, append_assoc, sym, ap, subst, ◌∙◌, inl, inr, arith}
use Rattle.fare_law.specs.declared.requests.Request.{Request}
use Rattle.fare_law.specs.Book.{Book}
use Rattle.fare_law.specs.Lists.{IsPrefix}
use Rattle.flight_paths.specs.declared.positions.Position.{Position}
use Rattle.component_table.specs.Tables.{AddsThose}
use Rattle.component_table.proofs.MergedTables.{both_have, have_more}
use Rattle.law_lemmas.proofs.Numbers.{at_most_or}
use Rattle.law_lemmas.proofs.Options.{some_one}
use Rattle.outline_tables.specs.declared.outline_numbers.Priced.{Priced}
use Rattle.outline_tables.specs.declared.outline_numbers.RuledOutline.{RuledOutline}
use Rattle.outlines.specs.declared.outline.Outline.{Outline}
use Rattle.outlines.specs.Outlines.{Outlined}

-- It is of the kind of one that stands from one place up to another.
pub record IsOfOne {X : Type 0} (kind : X → Outline → List ℕ → Type 0) (xs : List X) (from to : ℕ) (o : Outline) (ns : List ℕ) : Type 0 where
  pub place : ℕ
  pub low : from ≤ place
  pub high : place < to
  pub one : X
  pub stands : slice_get xs place ≡ Some one
  pub is : kind one o ns

module _ (b : Book) (q : Request) (at : Position) where
  -- nothing was added, where there is no such component
  pub adds_none : (these : Outline → List ℕ → Type 0) (known : List RuledOutline) (table : List Priced) → ((o : Outline) (price : ℕ) (h : Outlined b q at o price) → these o h.numbers → ⊥) → AddsThose b q at these known table table
  adds_none these known table none = record { more = []; joined = sym (append-nil table); has = record { numbers = tt; right = tt; covers = λ o price h w. absurd (none o price h w) } }

  -- where components of one kind are of another, which isn't missed
  pub adds_like : (these other : Outline → List ℕ → Type 0) (known : List RuledOutline) (old new : List Priced) → ((o : Outline) (price : ℕ) (h : Outlined b q at o price) → other o h.numbers → these o h.numbers) → AddsThose b q at these known old new → AddsThose b q at other known old new
  adds_like these other known old new to a = record { more = a.more; joined = a.joined; has = record { numbers = a.has.numbers; right = a.has.right; covers = λ o price h w. a.has.covers o price h (to o price h w) } }

  -- a part and then another, with more outlines known
  pub adds_both : (one other both : Outline → List ℕ → Type 0) (known wider : List RuledOutline) (old mid new : List Priced) → IsPrefix known wider → AddsThose b q at one known old mid → AddsThose b q at other wider mid new
      → ((o : Outline) (ns : List ℕ) → both o ns → one o ns ⊎ other o ns) → AddsThose b q at both wider old new
  adds_both one other both known wider old mid new prefix h k parts = record {
    more = h.more ++ k.more;
    joined = k.joined ∙ ap (λ xs. xs ++ k.more) h.joined ∙ append_assoc old h.more k.more;
    has = both_have b q at wider one other both h.more k.more (have_more b q at one known wider h.more prefix h.has) k.has parts;
  }

  module _ {X : Type 0} (kind : X → Outline → List ℕ → Type 0) (xs : List X) where
    -- those of the items of a list, of none at first
    pub adds_first : (from : ℕ) (known : List RuledOutline) (table : List Priced) → AddsThose b q at (IsOfOne kind xs from from) known table table
    adds_first from known table = adds_none (IsOfOne kind xs from from) known table (λ o price h w. let l = w.low in let u = w.high in absurd (omega (arith, l, u)))

    -- then of some more of them
    pub adds_range : (from mid to : ℕ) (these : Outline → List ℕ → Type 0) (known wider : List RuledOutline) (old was new : List Priced) → IsPrefix known wider → AddsThose b q at (IsOfOne kind xs from mid) known old was → AddsThose b q at these wider was new
        → ((o : Outline) (ns : List ℕ) → IsOfOne kind xs mid to o ns → these o ns) → AddsThose b q at (IsOfOne kind xs from to) wider old new
    adds_range from mid to these known wider old was new prefix h k like = adds_both (IsOfOne kind xs from mid) these (IsOfOne kind xs from to) known wider old was new prefix h k (λ o ns w. elim (at_most_or mid w.place) [
      | inl past ↦ inr (like o ns (record { place = w.place; low = past; high = w.high; one = w.one; stands = w.stands; is = w.is }))
      | inr before ↦ inl (record { place = w.place; low = w.low; high = before; one = w.one; stands = w.stands; is = w.is })
    ])

    -- or of the next one
    pub adds_next : (from i : ℕ) (x : X) (known wider : List RuledOutline) (old was new : List Priced) → slice_get xs i ≡ Some x → IsPrefix known wider → AddsThose b q at (IsOfOne kind xs from i) known old was → AddsThose b q at (kind x) wider was new
        → AddsThose b q at (IsOfOne kind xs from (i + 1)) wider old new
    adds_next from i x known wider old was new there prefix h k = adds_range from i (i + 1) (kind x) known wider old was new prefix h k (λ o ns w.
        let low = w.low in
        let high = w.high in
        let same : w.place ≡ i = omega (arith, low, high) in
        subst (λ y. kind y o ns) (some_one (slice_get xs i) w.one x (ap (slice_get xs) (sym same) ∙ w.stands) there) w.is)
