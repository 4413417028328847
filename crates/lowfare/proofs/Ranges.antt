-- The number of tickets that a command line asks for is within its range.
use Rattle.std.proofs.Common.{◌≡◌, ◌==◌, ◌&&◌, ℕ, Bool, true, false, nat_le, List, length, Option, Some, None, IfSome, cond, option_map, option_and_then, codes, refl, subst, arith}
use Rattle.std.specs.Int.{IsInRange}
use Rattle.std.specs.Str.{bytes_eq}
use Rattle.std.proofs.lemmas.Bool.Decides.{nat_tests}
use Rattle.clap.specs.Words.{Text, fault_of}
use Rattle.lowfare.specs.Lines.{HasRange}
use Rattle.program_words.specs.Lines.{◌>>=◌, at_of, best_of, budget_of, calendar_of, check_of, command_of, line_of, make_of, named, search_of, serve_of, verdict_of}
use Rattle.program_words.specs.Numbers.{is_numeral, number_in, required, value, within}
use Rattle.program_words.specs.Parser.{parser}
use Rattle.program_words.specs.Texts.{GivenTexts, texts_in}
use Rattle.program_words.specs.declared.commands.Command.{Command}
use Rattle.law_lemmas.proofs.Options.{none_some, some_same}

within_range : (low high m n : ℕ) → within low high m ≡ Some n → IsInRange low high n
within_range low high m n e = by (nat_le low m) (nat_le m high) refl refl e
  where
    by : (a b : Bool) → nat_le low m ≡ a → nat_le m high ≡ b → cond (a && b) (Some m) None ≡ Some n → IsInRange low high n
    by true true p q h = subst (IsInRange low high) (some_same m n h) (grind (arith, nat_tests))
    by true false p q h = absurd (none_some n h)
    by false b p q h = absurd (none_some n h)

number_range : (low high : ℕ) (text : Text) (n : ℕ) → number_in low high text ≡ Some n → IsInRange low high n
number_range low high text n e = by (is_numeral text) (value text) e
  where
    by : (test : Bool) (number : Option ℕ) → cond test (option_and_then (within low high) number) None ≡ Some n → IsInRange low high n
    by true None h = absurd (none_some n h)
    by true (Some m) h = within_range low high m n h
    by false number h = absurd (none_some n h)

best_range : (text : Option Text) (best : Option ℕ) → best_of text ≡ Some best → IfSome best (IsInRange 1 1000)
best_range None best e = subst (λ b. IfSome b (IsInRange 1 1000)) (some_same None best e) tt
best_range (Some text) best e = by (number_in 1 1000 text) refl e
  where
    by : (number : Option ℕ) → number_in 1 1000 text ≡ number → option_map Some number ≡ Some best → IfSome best (IsInRange 1 1000)
    by None p h = absurd (none_some best h)
    by (Some n) p h = subst (λ b. IfSome b (IsInRange 1 1000)) (some_same (Some n) best h) (number_range 1 1000 text n p)

size_range : (text : Option Text) (size : ℕ) → required 1 100 text ≡ Some size → IsInRange 1 100 size
size_range None size e = absurd (none_some size e)
size_range (Some text) size e = number_range 1 100 text size e

-- ---- a command, where there is one
abbrev AreRanged : Option Command → Type 0
AreRanged c = IfSome c HasRange

if_ranged : (test : Bool) (c d : Option Command) → AreRanged c → AreRanged d → AreRanged (cond test c d)
if_ranged true c d p q = p
if_ranged false c d p q = q

then_ranged : {A : Type 0} (o : Option A) (f : A → Option Command) → ((a : A) → o ≡ Some a → AreRanged (f a)) → AreRanged (o >>= f)
then_ranged None f h = tt
then_ranged (Some a) f h = h a refl

search_ranged : (t : GivenTexts) → AreRanged (search_of t)
search_ranged t =
    if_ranged _ _ None
    (then_ranged (best_of t.best) _ (λ best e. then_ranged (budget_of t.budget) _ (λ budget _. then_ranged (at_of t.at) _ (λ at _. best_range t.best best e)))) tt

check_ranged : (t : GivenTexts) → AreRanged (check_of t)
check_ranged t = if_ranged _ _ None (then_ranged (best_of t.best) _ (λ best e. then_ranged (at_of t.at) _ (λ at _. best_range t.best best e))) tt

make_ranged : (t : GivenTexts) → AreRanged (make_of t)
make_ranged t = if_ranged _ _ None (then_ranged (required 0 4294967295 t.seed) _ (λ seed _. then_ranged (required 1 100 t.size) _ (λ size e. size_range t.size size e))) tt

serve_ranged : (t : GivenTexts) → AreRanged (serve_of t)
serve_ranged t = if_ranged _ _ None (then_ranged (best_of t.best) _ (λ best e. then_ranged (budget_of t.budget) _ (λ budget _. best_range t.best best e))) tt

calendar_ranged : (t : GivenTexts) → AreRanged (calendar_of t)
calendar_ranged t =
    if_ranged _ _ None
    (then_ranged (required 1 31 t.outs) _ (λ outs _. then_ranged (required 1 31 t.backs) _ (λ backs _. then_ranged (budget_of t.budget) _ (λ budget _. then_ranged (at_of t.at) _ (λ at _. tt))))) tt

verdict_ranged : (t : GivenTexts) → AreRanged (verdict_of t)
verdict_ranged t = if_ranged _ _ None (then_ranged (at_of t.at) _ (λ at _. tt)) tt

named_ranged : (t : GivenTexts) (name : Text) → AreRanged (named t name)
named_ranged t name =
    if_ranged (bytes_eq name (codes "search")) _ _ (search_ranged t) (
    if_ranged (bytes_eq name (codes "check")) _ _ (check_ranged t) (
    if_ranged (bytes_eq name (codes "make")) _ _ (make_ranged t) (
    if_ranged (bytes_eq name (codes "serve")) _ _ (serve_ranged t) (
    if_ranged (bytes_eq name (codes "calendar")) _ _ (calendar_ranged t) (
    if_ranged (bytes_eq name (codes "verdict")) _ _ (verdict_ranged t) tt)))))

command_ranged : (t : GivenTexts) → AreRanged (command_of t)
command_ranged t = by t.command
  where
    by : (name : Option Text) → AreRanged (option_and_then (named t) name)
    by None = tt
    by (Some name) = named_ranged t name

pub line_ranged : (words : List Text) (c : Command) → line_of words ≡ Some c → HasRange c
line_ranged words c e = subst AreRanged e (if_ranged (length (fault_of parser words) == 0) (command_of (texts_in words)) None (command_ranged (texts_in words)) tt)
