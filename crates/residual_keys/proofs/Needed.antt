-- The list of the needed states is one. Given on to the crates above.
use Rattle.std.proofs.Common.{◌≡◌, ◌+◌, ◌≤◌, ℕ, List, length, arith}
use Rattle.fare_law.specs.declared.requests.Request.{Request}
use Rattle.fare_law.specs.Book.{Book}
use Rattle.fare_law.specs.Lists.{KLeast}
use Rattle.residual_keys.specs.ResidualOrder.{StateBefore}
use Rattle.residual_keys.specs.Residuals.{State}
use Rattle.residual_keys.specs.Searches.{AreNeeded, Reached}
use Rattle.residual_keys.proofs.LeastOne.{k_least_one}
use Rattle.residual_keys.proofs.Ordered.{states}
use Rattle.law_lemmas.proofs.EachOne.{each_from}

-- all of what is reached are the least of it
least : (b : Book) (q : Request) (need : List State) (k : ℕ) → length need ≤ k → AreNeeded StateBefore b q need → KLeast (Reached b q) StateBefore k need
least b q need k few h = record {
  ascending = h.in_order;
  each = each_from (Reached b q) need (λ x i. (h.are x).0 i);
  few = few;
  rest = λ x r out. absurd (out ((h.are x).1 r));
}

pub need_one : (b : Book) (q : Request) (xs ys : List State) → AreNeeded StateBefore b q xs → AreNeeded StateBefore b q ys → xs ≡ ys
need_one b q xs ys h k =
    k_least_one StateBefore states.trans states.never xs ys (Reached b q) (length xs + length ys) (λ x y r s. states.total x y)
    (least b q xs (length xs + length ys) (omega arith) h) (least b q ys (length xs + length ys) (omega arith) k)
