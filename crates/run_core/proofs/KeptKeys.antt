-- What is kept, by induction over the events that a world came of.
use Rattle.std.proofs.Common.{◌≡◌, ◌⊎◌, ⊎_elim, ℕ, List, [], ◌∷◌, ◌++◌, sym, subst, inl, inr}
use Rattle.fare_component.specs.Keys.{Asked, asked}
use Rattle.fare_law.specs.declared.market.OfferKey.{OfferKey}
use Rattle.fare_law.specs.Book.{Book}
use Rattle.fare_law.specs.Lists.{IsIn}
use Rattle.run_core.specs.Counting.{IsKeptOnce, WasKept}
use Rattle.run_core.specs.Worlds.{Adds, ComesOf, StepsTo, WorldView, opened}
use Rattle.run_core.specs.declared.events.Event.{Event}
use Rattle.run_core.specs.declared.events.Event.TheVariants.{File, Look, Fetch, Keep, Answer}
use Rattle.run_core.proofs.ListEnds.{in_either, in_end, in_more}
use Rattle.law_lemmas.proofs.Pairs.{differ_more}

-- one Keep event more
added : (past : List Event) (desk : ℕ) (key : OfferKey) (kept now : List Asked) → IsKeptOnce past kept → Adds kept (asked key) now → IsKeptOnce (Keep desk key ∷ past) now
added past desk key kept now h (inl there) = subst (IsKeptOnce (Keep desk key ∷ past)) (sym there.1) (record {
  once = h.once;
  exact = λ a. (λ i. inr ((h.exact a).0 i), λ w. ⊎_elim (λ e. subst (λ (x : Asked). IsIn x kept) (sym e) there.0) (λ was. (h.exact a).1 was) w);
})
added past desk key kept now h (inr new) = subst (IsKeptOnce (Keep desk key ∷ past)) (sym new.1) (record {
  once = differ_more kept (asked key) h.once new.0;
  exact = λ a. (
    λ i. ⊎_elim (λ there. inr ((h.exact a).0 there)) (λ e. inl e) (in_either a kept (asked key) i),
    λ w. ⊎_elim (λ e. subst (λ (x : Asked). IsIn x (kept ++ asked key ∷ [])) (sym e) (in_end kept (asked key))) (λ was. in_more a kept (asked key) ((h.exact a).1 was)) w,
  );
})

kept_step : (past : List Event) (u : WorldView) (e : Event) (w : WorldView) → IsKeptOnce past u.kept → StepsTo u e w → IsKeptOnce (e ∷ past) w.kept
kept_step past u (File f) w h s = subst (λ (v : WorldView). IsKeptOnce (File f ∷ past) v.kept) (sym s.next) (record { once = h.once; exact = h.exact })
kept_step past u (Look desk) w h s = subst (λ (v : WorldView). IsKeptOnce (Look desk ∷ past) v.kept) (sym s.next) (record { once = h.once; exact = h.exact })
kept_step past u (Fetch desk key) w h s = subst (λ (v : WorldView). IsKeptOnce (Fetch desk key ∷ past) v.kept) (sym s.next) (record { once = h.once; exact = h.exact })
kept_step past u (Keep desk key) w h s = subst (λ (v : WorldView). IsKeptOnce (Keep desk key ∷ past) v.kept) (sym s.next) (added past desk key u.kept s.kept h s.added)
kept_step past u (Answer desk q budget) w h s = subst (λ (v : WorldView). IsKeptOnce (Answer desk q budget ∷ past) v.kept) (sym s.next) (record { once = h.once; exact = h.exact })

pub each_kept_once : (b : Book) (count : ℕ) (past : List Event) (w : WorldView) → ComesOf (opened b count) past w → IsKeptOnce past w.kept
each_kept_once b count [] w e = subst (λ (v : WorldView). IsKeptOnce [] v.kept) (sym e) (record { once = tt; exact = λ a. (λ i. absurd i, λ w. absurd w) })
each_kept_once b count (e ∷ past) w c = kept_step past c.0 e w (each_kept_once b count past c.0 c.1) c.2
