-- What is made one after another on a page, also for each number of a loop.
use Rattle.std.proofs.Common.{◌≡◌, ◌≤◌, ◌+◌, ℕ, suc, List, append_assoc, append-nil, ap, sym, subst, ◌∙◌, arith}
use Rattle.case_maker.specs.Drawing.{Made, Making, going_on, ◌before◌, each_below}

abbrev of : List ℕ → ℕ → Made
of text last = record { text = text; last = last }

-- one, and then the other
pub two : {mid new : Made} (old : Made) (one other : Making) → mid ≡ going_on old one → new ≡ going_on mid other → new ≡ going_on old (one before other)
unfolding going_on ◌before◌
two {mid} {new} old one other first second =
    second ∙ ap (λ m. going_on m other) first
    ∙ ap (λ t. of t (other (one old.last).last).last) (append_assoc old.text (one old.last).text (other (one old.last).last).text)

-- nothing is made of no number
pub none : (old : Made) (make : ℕ → Making) → old ≡ going_on old (each_below 0 make)
unfolding going_on each_below
none old make = ap (λ t. of t old.last) (sym (append-nil old.text))

-- what is made of one number more
pub more : {mid new : Made} (old : Made) (make : ℕ → Making) (n : ℕ) → mid ≡ going_on old (each_below n make) → new ≡ going_on mid (make n) → new ≡ going_on old (each_below (n + 1) make)
unfolding each_below
more {mid} {new} old make n first second =
    let one_more : new ≡ going_on old (each_below (suc n) make) = two old (each_below n make) (make n) first second in
    subst (λ k. new ≡ going_on old (each_below k make)) {x = suc n} {y = n + 1} (omega (arith)) one_more

-- what is made of all numbers
pub all : {new : Made} (old : Made) (make : ℕ → Making) (n i : ℕ) → n ≤ i → i ≤ n → new ≡ going_on old (each_below i make) → new ≡ going_on old (each_below n make)
all {new} old make n i least most h = subst (λ k. new ≡ going_on old (each_below k make)) (omega (arith, least, most)) h
