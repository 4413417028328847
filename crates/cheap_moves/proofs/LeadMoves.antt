-- Leads of the entries of a table, and of the moves that count.
use Rattle.std.proofs.Common.{◌≡◌, ℕ, ◌+◌, ◌≤◌, ◌<◌, true, false, List, [], ◌∷◌, ◌++◌, length, take, get_or, Option, Some, None, refl, sym, subst, ◌∙◌, inl, inr, arith}
use Rattle.std.specs.List.Sorted.{IsPermutation}
use Rattle.cheap_moves.specs.declared.leads.Lead.{Lead}
use Rattle.cheap_moves.specs.Leads.{AreLeads, EntryLeaves, HasEntry, IsUpTo, LeadAdded, LeastAs, LeastOf}
use Rattle.cheap_moves.proofs.Joining.{one_added}
use Rattle.component_table.specs.Tables.{IsTable}
use Rattle.fare_law.specs.declared.moves.Role.{Role}
use Rattle.fare_law.specs.declared.moves.Role.TheVariants.{Alone, Opens, GoesOn, Closes}
use Rattle.fare_law.specs.declared.requests.Request.{Request}
use Rattle.fare_law.specs.declared.tickets.Piece.{Piece}
use Rattle.fare_law.specs.Book.{Book, live_rule}
use Rattle.fare_law.specs.Lists.{IsIn}
use Rattle.outlines.specs.declared.outline.Entry.{Entry}
use Rattle.outlines.specs.declared.outline.Outline.{Outline}
use Rattle.outlines.specs.Outcomes.{HasRule}
use Rattle.outlines.specs.Outlines.{Outlined, Outlines, piece_of}
use Rattle.outlines.proofs.ByOutline.{rule_live, tells_all, written}
use Rattle.residual_keys.specs.declared.residual.Next.{Next}
use Rattle.residual_keys.specs.Residuals.{State, closes}
use Rattle.residual_keys.specs.Steps.{Leaves}
use Rattle.residual_keys.proofs.OneNext.{direction}
use Rattle.residual_keys.proofs.SortedWords.{same_elements}
use Rattle.law_lemmas.proofs.EachOne.{each_in}
use Rattle.law_lemmas.proofs.Members.{in_left, in_right}
use Rattle.law_lemmas.proofs.Options.{some_one}
use Rattle.law_lemmas.proofs.Tests.{true_false}
use Rattle.residual_keys.proofs.RolesHad.{places}

module _ (q : Request) (r : State) (bound : State → Option ℕ) (e : Entry) where
  way_is : (role : Role) (slot : ℕ) (next : Next) → EntryLeaves q r e role slot next → e.outline.reverse ≡ closes role
  way_is role slot next l = direction role slot r.units l.units (piece_of r.at.place q.sale e.rule e.outline) l.step

  -- an entry whose fare is filed in reverse
  pub closing_least : length r.units ≤ 2 → e.outline.reverse ≡ true → (one other least : Option ℕ) → LeastAs q r bound e Closes 0 one → LeastAs q r bound e Closes 1 other
      → ((n : ℕ) → IsUpTo one n → IsUpTo least n) → ((n : ℕ) → IsUpTo other n → IsUpTo least n) → LeastOf q r bound e least
  closing_least few w one other least h k f g Alone slot next rest l s = absurd (true_false w (way_is Alone slot next l))
  closing_least few w one other least h k f g Opens slot next rest l s = absurd (true_false w (way_is Opens slot next l))
  closing_least few w one other least h k f g GoesOn slot next rest l s = absurd (true_false w (way_is GoesOn slot next l))
  closing_least few w one other least h k f g Closes slot next rest l s = elim (places r.units slot l.step.0 few l.step.1) [
    | inl z ↦ f (e.price + rest) (h next rest (subst (λ i. EntryLeaves q r e Closes i next) z l) s)
    | inr z ↦ g (e.price + rest) (k next rest (subst (λ i. EntryLeaves q r e Closes i next) z l) s)
  ]

  -- one whose fare is filed forward
  pub forward_least : length r.units ≤ 2 → e.outline.reverse ≡ false → (alone opens first second begun onward least : Option ℕ) → LeastAs q r bound e Alone 0 alone → LeastAs q r bound e Opens 0 opens → LeastAs q r bound e GoesOn 0 first → LeastAs q r bound e GoesOn 1 second
      → ((n : ℕ) → IsUpTo alone n → IsUpTo begun n) → ((n : ℕ) → IsUpTo opens n → IsUpTo begun n) → ((n : ℕ) → IsUpTo first n → IsUpTo onward n) → ((n : ℕ) → IsUpTo second n → IsUpTo onward n)
      → ((n : ℕ) → IsUpTo begun n → IsUpTo least n) → ((n : ℕ) → IsUpTo onward n → IsUpTo least n) → LeastOf q r bound e least
  forward_least few w alone opens first second begun onward least h k m o ha ko mf os b g Alone slot next rest l s = b (e.price + rest) (ha (e.price + rest) (h next rest (subst (λ i. EntryLeaves q r e Alone i next) l.step.0 l) s))
  forward_least few w alone opens first second begun onward least h k m o ha ko mf os b g Opens slot next rest l s = b (e.price + rest) (ko (e.price + rest) (k next rest (subst (λ i. EntryLeaves q r e Opens i next) l.step.0 l) s))
  forward_least few w alone opens first second begun onward least h k m o ha ko mf os b g GoesOn slot next rest l s = elim (places r.units slot l.step.0 few l.step.1) [
    | inl z ↦ g (e.price + rest) (mf (e.price + rest) (m next rest (subst (λ i. EntryLeaves q r e GoesOn i next) z l) s))
    | inr z ↦ g (e.price + rest) (os (e.price + rest) (o next rest (subst (λ i. EntryLeaves q r e GoesOn i next) z l) s))
  ]
  forward_least few w alone opens first second begun onward least h k m o ha ko mf os b g Closes slot next rest l s = absurd (true_false (way_is Closes slot next l) w)

  -- an entry by which moves count, and one by which none does
  pub lead_had : (old new : List Lead) (total : ℕ) → LeastOf q r bound e (Some total) → new ≡ old ++ record { outline = e.outline; total = total } ∷ [] → LeadAdded q r bound e old new
  lead_had old new total h is = record {
    stay = λ l i. subst (IsIn l) (sym is) (in_left l old (x ∷ []) i);
    has = λ role slot next rest l s. (x, subst (IsIn x) (sym is) (in_right x old (x ∷ []) (inl refl)), refl, h role slot next rest l s);
  }
    where
      x : Lead
      x = record { outline = e.outline; total = total }

  pub lead_not : (old : List Lead) → LeastOf q r bound e None → LeadAdded q r bound e old old
  lead_not old h = record { stay = λ l i. i; has = λ role slot next rest l s. absurd (h role slot next rest l s) }

-- one entry more
pub leads_more : (q : Request) (r : State) (bound : State → Option ℕ) (table : List Entry) (i : ℕ) (d e : Entry) (old new : List Lead) → i < length table → e ≡ get_or table i d
    → ((x : Entry) → IsIn x (take i table) → HasEntry q r bound old x) → LeadAdded q r bound e old new → (x : Entry) → IsIn x (take (i + 1) table) → HasEntry q r bound new x
leads_more q r bound table i d e old new lt is h added x j = elim (one_added table i d e x lt is j) [
  | inl k ↦ λ role slot next rest l s. let y = h x k role slot next rest l s in (y.0, added.stay y.0 y.1, y.2, y.3)
  | inr k ↦ subst (HasEntry q r bound new) (sym k) added.has
]

-- and the leads of the whole table are those of all moves
pub leads_are : (b : Book) (q : Request) (r : State) (bound : State → Option ℕ) (table : List Entry) (leads : List Lead) → IsTable b q r.at table → ((e : Entry) → IsIn e table → HasEntry q r bound leads e) → AreLeads b q r bound leads
leads_are b q r bound table leads t has c k rest s = record {
  lead = x.0;
  within = x.1;
  outlines = subst (λ y. Outlines y k.after p) (sym (x.2 ∙ found.2)) (record { after_is = refl; end = refl; first = refl; last = refl; carrier = refl; number = refl; kind = refl; reverse = refl });
  below = let led = x.3 in let least = found.3 in omega (arith, led, least);
}
  where
    p : Piece
    p = k.piece

    o : Outline
    o = record { after = k.after; end = p.end; first = p.first_day; last = p.last_day; carrier = p.fare.key.carrier; number = p.fare.rule; kind = p.fare.kind; reverse = p.reverse }

    h : Outlined b q r.at o c.price
    h = record {
      numbers = c.mv.flights;
      flights = k.flights;
      piece = p;
      path = k.moves.path;
      stands = k.moves.stands;
      lawful = k.moves.lawful;
      costs = k.costs;
      outline = record { after_is = refl; end = refl; first = refl; last = refl; carrier = refl; number = refl; kind = refl; reverse = refl };
    }

    found : (e : Entry) × IsIn e table × (e.outline ≡ o) × (e.price ≤ c.price)
    found = t.tabled.covered o c.price h

    e : Entry
    e = found.0

    rule : e.rule ≡ p.rule
    rule = some_one (live_rule b o.carrier o.number) e.rule p.rule (subst (λ (y : Outline). live_rule b y.carrier y.number ≡ Some e.rule) found.2 (each_in (HasRule b) table e t.rules found.1)) (rule_live b q r.at o c.price h)

    leaves : Leaves r k.after p c.mv.role c.mv.slot c.next
    leaves = record { units = k.units; step = k.moves.units; part = k.moves.part; done = k.moves.done; left = k.left }

    alike : Leaves r o.after (piece_of r.at.place q.sale p.rule o) c.mv.role c.mv.slot c.next
    alike = (tells_all r k.after p (piece_of r.at.place q.sale p.rule o) (written b q r.at o c.price h) c.mv.role c.mv.slot c.next).0 leaves

    by : EntryLeaves q r e c.mv.role c.mv.slot c.next
    by = subst (λ (y : Outline). Leaves r y.after (piece_of r.at.place q.sale e.rule y) c.mv.role c.mv.slot c.next) (sym found.2) (subst (λ z. Leaves r o.after (piece_of r.at.place q.sale z o) c.mv.role c.mv.slot c.next) (sym rule) alike)

    x : (l : Lead) × IsIn l leads × (l.outline ≡ e.outline) × (l.total ≤ e.price + rest)
    x = has e found.1 c.mv.role c.mv.slot c.next rest by s

-- leads in another order
pub leads_again : (b : Book) (q : Request) (r : State) (bound : State → Option ℕ) (old new : List Lead) → IsPermutation old new → AreLeads b q r bound old → AreLeads b q r bound new
leads_again b q r bound old new moves h c k rest e = let l = h c k rest e in record { lead = l.lead; within = (same_elements l.lead old new moves).0 l.within; outlines = l.outlines; below = l.below }
