-- Tables by numbers as entries.
use Rattle.std.proofs.Common.{◌≡◌, ℕ, ◌+◌, ◌<◌, List, [], ◌∷◌, ◌++◌, length, take, get_or, filter_map, slice_get, Option, None, Some, option_map, refl, sym, ap, subst, ◌∙◌, inl, inr}
use Rattle.std.specs.List.{cons_option}
use Rattle.fare_ends.proofs.Ranges.{got_more}
use Rattle.fare_law.specs.declared.rules.Rule.{Rule}
use Rattle.fare_law.specs.Lists.{Each, IsIn, IsPrefix}
use Rattle.law_lemmas.proofs.EachOne.{each_at}
use Rattle.law_lemmas.proofs.Lists.{front_at, read_got}
use Rattle.outline_tables.specs.declared.outline_numbers.Priced.{Priced}
use Rattle.outline_tables.specs.declared.outline_numbers.RuledOutline.{RuledOutline}
use Rattle.outline_tables.specs.Numbers.{OutlineStands, entries_of, entry_at, entry_of}
use Rattle.outline_tables.proofs.Putting.{got_some}
use Rattle.outlines.specs.declared.outline.Entry.{Entry}
use Rattle.outlines.specs.declared.outline.Outline.{Outline}

module _ {X Y : Type 0} (f : X → Option Y) where
  put : (o : Option Y) (xs ys : List Y) → cons_option o (xs ++ ys) ≡ cons_option o xs ++ ys
  put None xs ys = refl
  put (Some x) xs ys = refl

  pub mapped_append : (xs ys : List X) → filter_map f (xs ++ ys) ≡ filter_map f xs ++ filter_map f ys
  mapped_append [] ys = refl
  mapped_append (x ∷ xs) ys = ap (cons_option (f x)) (mapped_append xs ys) ∙ put (f x) (filter_map f xs) (filter_map f ys)

  pub mapped_last : (xs : List X) (x : X) (y : Y) → f x ≡ Some y → filter_map f (xs ++ x ∷ []) ≡ filter_map f xs ++ y ∷ []
  mapped_last xs x y e = mapped_append xs (x ∷ []) ∙ ap (λ o. filter_map f xs ++ cons_option o []) e

-- the entry of a known outline
pub entry_is : (known : List RuledOutline) (p : Priced) (one : RuledOutline) → slice_get known p.outline ≡ Some one → entry_of known p ≡ Some (entry_at p.price one)
entry_is known p one e = ap (option_map (entry_at p.price)) e

-- one entry more
pub entries_last : (known : List RuledOutline) (table : List Priced) (p : Priced) (one : RuledOutline) → slice_get known p.outline ≡ Some one → entries_of known (table ++ p ∷ []) ≡ entries_of known table ++ entry_at p.price one ∷ []
entries_last known table p one e = mapped_last (entry_of known) table p (entry_at p.price one) (entry_is known p one e)

abbrev pub with_rule : RuledOutline → ℕ → Rule → Entry
with_rule one price rule = record { outline = one.outline; rule = rule; price = price }

-- the entry of the next outline, which was read by its number
pub entries_read : (known : List RuledOutline) (table : List Priced) (i : ℕ) (none : Priced) (one : RuledOutline) (rule : Rule) (old new : List Entry) → i < length table → Each (λ (p : Priced). p.outline < length known) table
    → one ≡ get_or known (get_or table i none).outline one → rule ≡ one.rule → old ≡ entries_of known (take i table) → new ≡ old ++ record { outline = one.outline; rule = rule; price = (get_or table i none).price } ∷ [] → new ≡ entries_of known (take (i + 1) table)
entries_read known table i none one rule old new lt within is rule_is was e =
    let p = get_or table i none in
    let there = each_at (λ (p : Priced). p.outline < length known) table i none within lt in
    let got : slice_get known p.outline ≡ Some one = read_got known p.outline one one there is in
    e ∙ ap (λ r. old ++ with_rule one p.price r ∷ []) rule_is ∙ ap (λ es. es ++ entry_at p.price one ∷ []) was ∙ sym (entries_last known (take i table) p one got) ∙ ap (entries_of known) (sym (front_at table i none lt))

-- they are the same as more outlines are known
pub entries_more : (known more : List RuledOutline) → IsPrefix known more → (table : List Priced) → Each (λ (p : Priced). p.outline < length known) table → entries_of more table ≡ entries_of known table
entries_more known more prefix [] h = refl
entries_more known more prefix (p ∷ ps) h =
    let one = got_some known p.outline h.0 in
    ap (λ o. cons_option o (entries_of more ps)) (entry_is more p one.0 (got_more known more p.outline one.0 prefix one.1) ∙ sym (entry_is known p one.0 one.1)) ∙ ap (cons_option (entry_of known p)) (entries_more known more prefix ps h.1)

pub outline_more : (known more : List RuledOutline) (o : Outline) (n : ℕ) → IsPrefix known more → OutlineStands known o n → OutlineStands more o n
outline_more known more o n prefix s = record { one = s.one; stands = got_more known more n s.one prefix s.stands; is = s.is }

-- an entry is that of an outline by its number
pub entry_from : (known : List RuledOutline) (table : List Priced) (e : Entry) → IsIn e (entries_of known table) → (p : Priced) × IsIn p table × (one : RuledOutline) × (slice_get known p.outline ≡ Some one) × (e ≡ entry_at p.price one)
entry_from known [] e i = absurd i
entry_from known (p ∷ ps) e i = by_one (λ j. entry_from known ps e j) (slice_get known p.outline) refl
  where
    From : List Priced → Type 0
    From table = (q : Priced) × IsIn q table × (one : RuledOutline) × (slice_get known q.outline ≡ Some one) × (e ≡ entry_at q.price one)

    by_one : (IsIn e (entries_of known ps) → From ps) → (o : Option RuledOutline) → slice_get known p.outline ≡ o → From (p ∷ ps)
    by_one rest None none = let more = rest (subst (λ o. IsIn e (cons_option (option_map (entry_at p.price) o) (entries_of known ps))) none i) in (more.0, inr more.1, more.2, more.3, more.4)
    by_one rest (Some one) some = elim (subst (λ o. IsIn e (cons_option (option_map (entry_at p.price) o) (entries_of known ps))) some i) [
      | inl s ↦ (p, inl refl, one, some, s)
      | inr j ↦ let more = rest j in (more.0, inr more.1, more.2, more.3, more.4)
    ]

-- and each outline of the table has one
pub entry_in : (known : List RuledOutline) (table : List Priced) (p : Priced) (one : RuledOutline) → IsIn p table → slice_get known p.outline ≡ Some one → IsIn (entry_at p.price one) (entries_of known table)
entry_in known [] p one i e = absurd i
entry_in known (q ∷ ps) p one (inl s) e =
    let same : entry_of known q ≡ Some (entry_at p.price one) = ap (entry_of known) (sym s) ∙ entry_is known p one e in
    subst (λ o. IsIn (entry_at p.price one) (cons_option o (entries_of known ps))) (sym same) (inl refl)
entry_in known (q ∷ ps) p one (inr i) e = behind (entry_of known q) (entry_in known ps p one i e)
  where
    behind : (o : Option Entry) → IsIn (entry_at p.price one) (entries_of known ps) → IsIn (entry_at p.price one) (cons_option o (entries_of known ps))
    behind None j = j
    behind (Some x) j = inr j

-- tables behind one another
pub entries_append : (known : List RuledOutline) (some more : List Priced) → entries_of known (some ++ more) ≡ entries_of known some ++ entries_of known more
entries_append known some more = mapped_append (entry_of known) some more
