-- A search while its steps are asked.
use Rattle.std.proofs.Common.{nat_eq, ap, ◌∙◌, ◌≡◌, ℕ, suc, ◌<◌, ◌≤◌, ◌+◌, ◌⊎◌, ◌^◌, Bool, true, false, List, [], ◌∷◌, ◌++◌, length, Option, Some, None, sym, refl, subst, inl, inr, arith}
use Rattle.fare_law.specs.Lists.{Each, KLeast}
use Rattle.best_steps.specs.declared.kept.Asked.{Asked}
use Rattle.best_steps.specs.declared.kept.Kept.{Kept}
use Rattle.best_steps.specs.Answers.{AreKept}
use Rattle.std.proofs.lemmas.Bool.{cases_eq}
use Rattle.std.proofs.lemmas.Bool.Decides.{nat_tests}
use Rattle.best_steps.specs.declared.steps.Step.{Step}
use Rattle.best_k.specs.declared.lattice.Derivation.{Derivation}
use Rattle.best_steps.specs.Runs.{Sooner, Leads, StepLaws, IsAt, IsRun, Same, LeastRuns}
use Rattle.best_steps.specs.Waiting.{Open, Stands, IsOpen, Takes, Drawing, Searching, Parted}
use Rattle.best_steps.specs.Searches.{Waits, WaitsAt, IsSearch, IsTurn}
use Rattle.best_steps.specs.Heaped.{opens}
use Rattle.best_steps.specs.declared.search.Search.{Search}
use Rattle.std.proofs.lemmas.Bool.{false≢true}
use Rattle.best_steps.proofs.Asks.{asked_same, asked_has, least_same}
use Rattle.best_steps.proofs.Paths.{leads_on, price_on, completed}
use Rattle.best_steps.proofs.Drawings.{finished, waits_more, waits_none, begins, begins_none}
use Rattle.std.specs.List.Sorted.{IsPermutation}
use Rattle.best_k.proofs.Reordered.{moves_permutation}
use Rattle.best_steps.proofs.Pairs.{pairwise_moved}

pub same_back : (A B : ℕ → Step → Type 0) → Same A B → Same B A
same_back A B f n s = ((f n s).1, (f n s).0)

pub same_self : (A : ℕ → Step → Type 0) → Same A A
same_self A n s = ((λ h. h), (λ h. h))

pub at_same : (A B : ℕ → Step → Type 0) → Same A B → (n i : ℕ) (o : Option Step) → IsAt (A n) i o → IsAt (B n) i o
at_same A B f n i o a = asked_same (B n) (A n) (λ s. ((f n s).1, (f n s).0)) i o a

leads_same : (A B : ℕ → Step → Type 0) → Same A B → (from to : Option ℕ) (steps : List Step) → Leads A from steps to → Leads B from steps to
leads_same A B f from to [] h = h
leads_same A B f from to (s ∷ more) h = (h.0, h.1, (f h.0 s).0 h.2, leads_same A B f s.next to more h.3)

stands_same : (A B : ℕ → Step → Type 0) → Same A B → (o : Open) (d : Derivation) → Stands A o d → Stands B o d
stands_same A B f o d h = record {
  first = h.first;
  more = h.more;
  leads = leads_same A B f (Some o.node) None (h.first ∷ h.more) h.leads;
  late = h.late;
  price = h.price;
  word = h.word;
}

run_same : (A B : ℕ → Step → Type 0) → Same A B → (root : ℕ) (d : Derivation) → IsRun A root d → IsRun B root d
run_same A B f root d h = (h.0, leads_same A B f (Some root) None h.0 h.1, h.2, h.3)

runs_same : (A B : ℕ → Step → Type 0) → Same A B → (root : ℕ) (ds : List Derivation) → Each (IsRun A root) ds → Each (IsRun B root) ds
runs_same A B f root [] h = tt
runs_same A B f root (d ∷ ds) h = (run_same A B f root d h.0, runs_same A B f root ds h.1)

pub searching_same : (A B : ℕ → Step → Type 0) → Same A B → (root : ℕ) (ds : List Derivation) (ws : List Open) → Searching A root ds ws
    → Searching B root ds ws
searching_same A B f root ds ws s =
    let g = same_back A B f in
    record {
      each = λ e i. let v = s.each e i in record { path = v.path; leads = leads_same A B f (Some root) (Some e.node) v.path v.leads; cost = v.cost; front = v.front; there = at_same A B f e.node e.place (Some e.step) v.there; few = v.few };
      separate = λ i j a b h k ne d x y. s.separate i j a b h k ne d (stands_same B A g a d x) (stands_same B A g b d y);
      runs = runs_same A B f root ds s.runs;
      ascending = s.ascending;
      covers = λ d h. elim (s.covers d (run_same B A g root d h)) [ inl i ↦ inl i | inr w ↦ inr (w.0, w.1, stands_same A B f w.0 d w.2) ];
      later = λ d w. s.later d (w.0, w.1, stands_same B A g w.0 d w.2);
    }

pub waits_same : (A B : ℕ → Step → Type 0) → Same A B → (cost : ℕ) (front : List ℕ) (node place : ℕ) (old new : List Open)
    → WaitsAt (A node) cost front node place old new → WaitsAt (B node) cost front node place old new
waits_same A B f cost front node place old new w = record { step = w.step; there = at_same A B f node place w.step w.there; waits = w.waits }

-- a branch's node is one of the graph's
pub node_within : (Has : ℕ → Step → Type 0) (nodes : ℕ) (level : ℕ → ℕ) → StepLaws Has nodes level → (root n : ℕ) (o : Open) → root < nodes
    → IsOpen Has root n o → o.node < nodes
node_within Has nodes level laws root n o h v = along (Some root) (o.node) v.path (λ m e. let k : root ≡ m = cc in omega arith) v.leads
  where
    along : (from : Option ℕ) (to : ℕ) (path : List Step) → ((m : ℕ) → from ≡ Some m → m < nodes) → Leads Has from path (Some to) → to < nodes
    along from to [] small l = small to l
    along from to (s ∷ path) small l = along s.next to path (λ m e. laws.within l.0 m s l.2 e) l.3

-- the steps of a branch's node are small
pub totals_small : (Has : ℕ → Step → Type 0) (nodes : ℕ) (level : ℕ → ℕ) → StepLaws Has nodes level → (root n : ℕ) (o : Open)
    → IsOpen Has root n o → (u : Step) → Has o.node u → o.cost + u.total < 2 ^ 63
totals_small Has nodes level laws root n o v u h =
    let c = completed Has nodes level laws (suc (level o.node)) o.node u (omega arith) h in
    let run = leads_on Has (Some root) (Some o.node) None v.path (u ∷ c.rest) v.leads (o.node, refl, h, c.leads) in
    let small = laws.small root (v.path ++ (u ∷ c.rest)) run in
    omega (arith, small, price_on v.path (u ∷ c.rest), c.price, v.cost)

-- the other steps of the node wait
pub waits_beside : (Has : ℕ → Step → Type 0) (nodes : ℕ) (level : ℕ → ℕ) → StepLaws Has nodes level → (root n : ℕ) (All : Derivation → Type 0) (o : Open)
    (ws ws' : List Open) → Drawing Has root n All (Stands Has o) o ws → WaitsAt (Has o.node) o.cost o.front o.node (o.place + 1) ws ws'
    → Drawing Has root n All (Takes Has o) o ws'
waits_beside Has nodes level laws root n All o ws ws' g w = by_step w.step w.there w.waits
  where
    by_step : (step : Option Step) → IsAt (Has o.node) (o.place + 1) step → Waits o.cost o.front o.node (o.place + 1) ws ws' step
        → Drawing Has root n All (Takes Has o) o ws'
    by_step None a e = subst (λ z. Drawing Has root n All (Takes Has o) o z) (sym e) (waits_none Has nodes level laws root n All o ws g a)
    by_step (Some t) a m = waits_more Has nodes level laws root n All o t ws ws' g a m

-- the steps of the root are small
pub root_small : (Has : ℕ → Step → Type 0) (nodes : ℕ) (level : ℕ → ℕ) → StepLaws Has nodes level → (root : ℕ) (u : Step) → Has root u → u.total < 2 ^ 63
root_small Has nodes level laws root u h =
    let c = completed Has nodes level laws (suc (level root)) root u (omega arith) h in
    let small = laws.small root (u ∷ c.rest) (root, refl, h, c.leads) in
    omega (arith, small, c.price)

-- what waits may stand in another order
searching_moved : (Has : ℕ → Step → Type 0) (root : ℕ) (ds : List Derivation) (ws ws' : List Open) → IsPermutation ws ws' → Searching Has root ds ws
    → Searching Has root ds ws'
searching_moved Has root ds ws ws' m s =
    let mv = moves_permutation ws ws' m in
    record {
      each = λ e i. s.each e (mv.back e i);
      separate = pairwise_moved (Parted Has) ws ws' mv s.separate;
      runs = s.runs;
      ascending = s.ascending;
      covers = λ d h. elim (s.covers d h) [ inl i ↦ inl i | inr w ↦ inr (w.0, mv.to w.0 w.1, w.2) ];
      later = λ d w. s.later d (w.0, mv.back w.0 w.1, w.2);
    }

-- the root's first step waits
pub begins_at : (Has : ℕ → Step → Type 0) (nodes : ℕ) (level : ℕ → ℕ) → StepLaws Has nodes level → (root : ℕ) (ws : List Open)
    → WaitsAt (Has root) 0 [] root 0 [] ws → Searching Has root [] ws
begins_at Has nodes level laws root ws w = by_step w.step w.there w.waits
  where
    by_step : (step : Option Step) → IsAt (Has root) 0 step → Waits 0 [] root 0 [] ws step → Searching Has root [] ws
    by_step None a e = subst (λ z. Searching Has root [] z) (sym e) (begins_none Has nodes level laws root a)
    by_step (Some t) a m = searching_moved Has root [] _ ws m (begins Has nodes level laws root t a)

-- the laws, where each node has the same steps
pub laws_same : (A B : ℕ → Step → Type 0) → Same A B → (nodes nodes' : ℕ) → nodes' ≡ nodes → (level level' : ℕ → ℕ)
    → ((n : ℕ) → level' n ≡ level n) → StepLaws A nodes level → StepLaws B nodes' level'
laws_same A B f nodes nodes' same level level' levels laws =
    let back = same_back A B f in
    record {
      within = λ n m s h e. let k = laws.within n m s ((f n s).1 h) e in omega arith;
      down = λ n m s h e. let k = laws.down n m s ((f n s).1 h) e in omega (arith, levels n, levels m);
      apart = λ n s t h k p. laws.apart n s t ((f n s).1 h) ((f n t).1 k) p;
      last = λ n s h e. laws.last n s ((f n s).1 h) e;
      bound = λ n m s t h e k. laws.bound n m s t ((f n s).1 h) e ((f m t).1 k);
      met = λ n m s h e. let t = laws.met n m s ((f n s).1 h) e in (t.0, (f m t.0).0 t.1, t.2);
      small = λ n steps l. laws.small n steps (leads_same B A back (Some n) None steps l);
      short = λ n steps l. laws.short n steps (leads_same B A back (Some n) None steps l);
    }

-- what is kept, where each node has the same steps
pub kept_same : (A B : ℕ → Step → Type 0) → Same A B → (kept : Kept) → AreKept A kept → AreKept B kept
kept_same A B f kept h n a e = least_same (B n) (A n) (λ s. ((f n s).1, (f n s).0)) a.wanted a.list (h n a e)

-- one more list is kept
pub kept_more : (Has : ℕ → Step → Type 0) (old new : ℕ → Option Asked) (node : ℕ) (a : Asked)
    → ((n : ℕ) (b : Asked) → old n ≡ Some b → KLeast (Has n) Sooner b.wanted b.list) → KLeast (Has node) Sooner a.wanted a.list
    → new node ≡ Some a → ((n : ℕ) → nat_eq node n ≡ false → new n ≡ old n)
    → (n : ℕ) (b : Asked) → new n ≡ Some b → KLeast (Has n) Sooner b.wanted b.list
kept_more Has old new node a h l here others n b e = elim (cases_eq node n) [
  | inl q ↦
      let same : b ≡ a = (let x : new node ≡ Some b = ap new q ∙ e in cc) in
      subst (λ z. KLeast (Has n) Sooner z.wanted z.list) (sym same) (subst (λ z. KLeast (Has z) Sooner a.wanted a.list) q l)
  | inr ne ↦ h n b (sym (others n (grind (arith, nat_tests))) ∙ e)
]

pub search_same : (A B : ℕ → Step → Type 0) → Same A B → (s : Search) → IsSearch A s → IsSearch B s
search_same A B f s h = record {
  searching = searching_same A B f s.root s.drawn (opens s.waiting) h.searching;
  kept = kept_same A B f s.kept h.kept;
}

-- what a turn says, by its answer
pub turned : (old new : Search) (b : Bool) → b ≡ true → IsTurn old new b → length new.drawn ≡ length old.drawn + 1
turned old new true e t = t
turned old new false e t = absurd (false≢true e)

pub ended : (old new : Search) (b : Bool) → b ≡ false → IsTurn old new b → (new.drawn ≡ old.drawn) × (opens new.waiting ≡ [])
ended old new true e t = absurd (false≢true (sym e))
ended old new false e t = t

-- a search that has enough, or that is at its end
pub done : (A B : ℕ → Step → Type 0) → Same A B → (root k : ℕ) (s : Search) → s.root ≡ root → IsSearch B s → length s.drawn ≤ k
    → (length s.drawn ≡ k) ⊎ (opens s.waiting ≡ []) → LeastRuns A root k s.drawn
done A B f root k s e h few end =
    subst (λ z. LeastRuns A z k s.drawn) e
    (finished A s.root k s.drawn (opens s.waiting) (searching_same B A (same_back A B f) s.root s.drawn (opens s.waiting) h.searching) few end)

-- the other steps of the node wait, by an answer of a graph with the same steps
pub taken : (A B : ℕ → Step → Type 0) (nodes : ℕ) (level : ℕ → ℕ) → StepLaws A nodes level → Same A B → (root n : ℕ) (All : Derivation → Type 0) (o : Open)
    (ws ws' : List Open) → Drawing A root n All (Stands A o) o ws → WaitsAt (B o.node) o.cost o.front o.node (o.place + 1) ws ws'
    → Drawing A root n All (Takes A o) o ws'
taken A B nodes level laws f root n All o ws ws' g w =
    waits_beside A nodes level laws root n All o ws ws' g (waits_same B A (same_back A B f) o.cost o.front o.node (o.place + 1) ws ws' w)

-- a branch has a step of its node
pub open_has : (Has : ℕ → Step → Type 0) (root n : ℕ) (o : Open) → IsOpen Has root n o → Has o.node o.step
open_has Has root n o v = asked_has (Has o.node) o.place o.step v.there
