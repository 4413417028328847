-- The fares on a ticket combine exactly where its parts do, end on end.
use Rattle.std.proofs.Common.{◌≡◌, ◌↔◌, zero, suc, List, [], ◌∷◌, Option, Some, None, IfSome, map, option_map, arith}
use Rattle.std.specs.List.{All}
use Rattle.std.proofs.lemmas.List.Elements.{All-nil, All-cons}
use Rattle.fare_law.specs.declared.rules.CombineRule.{CombineRule}
use Rattle.fare_law.specs.declared.rules.EndOnEnd.{EndOnEnd}
use Rattle.fare_law.specs.declared.rules.EndOnEnd.TheVariants.{Free, SameCarrier, Never}
use Rattle.fare_law.specs.Lawful.{EndOnEndOf, EndOnEndHolds}
use Rattle.fare_law.specs.Parts.{Part}
use Rattle.fare_law.specs.Lists.{Each}
use Rattle.ticket_whole.specs.FaresOn.{fare_on, AreAsAsked, Combines}
use Rattle.law_lemmas.proofs.EachOne.{each_by}

all_each : {X Y : Type 0} (P : Y → Type 0) (f : X → Y) (xs : List X) → All P (map f xs) → Each (λ x. P (f x)) xs
all_each P f [] h = tt
all_each P f (x ∷ xs) h = (h zero (f x) (omega arith), all_each P f xs (λ k d lt. h (suc k) d (omega (arith, lt))))

each_all : {X Y : Type 0} (P : Y → Type 0) (f : X → Y) (xs : List X) → Each (λ x. P (f x)) xs → All P (map f xs)
each_all P f [] h = All-nil P
each_all P f (x ∷ xs) h = All-cons P (f x) (map f xs) h.0 (each_all P f xs h.1)

asked_told : (parts : List Part) (part : Part) (asks : EndOnEnd) → AreAsAsked (map fare_on parts) (fare_on part) asks ↔ EndOnEndOf parts part.piece asks
asked_told parts part Free = (λ h. h, λ h. h)
asked_told parts part SameCarrier = (all_each (λ f. f.carrier ≡ part.piece.fare.key.carrier) fare_on parts, each_all (λ f. f.carrier ≡ part.piece.fare.key.carrier) fare_on parts)
asked_told parts part Never = (all_each (λ f. f.unit ≡ 1) fare_on parts, each_all (λ f. f.unit ≡ 1) fare_on parts)

rule_told : (parts : List Part) (part : Part) (o : Option CombineRule) → IfSome (option_map (λ (c : CombineRule). c.end_on_end) o) (AreAsAsked (map fare_on parts) (fare_on part)) ↔ IfSome o (λ c. EndOnEndOf parts part.piece c.end_on_end)
rule_told parts part None = (λ h. h, λ h. h)
rule_told parts part (Some c) = asked_told parts part c.end_on_end

pub combine_told : (parts : List Part) → All (Combines (map fare_on parts)) (map fare_on parts) ↔ Each (λ part. EndOnEndHolds parts part.piece) parts
combine_told parts = (
  λ h. each_by (λ (part : Part). Combines (map fare_on parts) (fare_on part)) _ parts (λ part. (rule_told parts part part.piece.rule.cat10).0) (all_each (Combines (map fare_on parts)) fare_on parts h),
  λ h. each_all (Combines (map fare_on parts)) fare_on parts (each_by _ (λ (part : Part). Combines (map fare_on parts) (fare_on part)) parts (λ part. (rule_told parts part part.piece.rule.cat10).1) h),
)
