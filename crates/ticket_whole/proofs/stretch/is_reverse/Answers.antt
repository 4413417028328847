use Rattle.std.proofs.Common.{◌≡◌, ◌∙◌, Option, Some, None, option_map, ap, refl, sym}
use Rattle.fare_law.specs.Parts.{Part}
use Rattle.ticket_whole.specs.declared.stretch.Stretch.{Stretch}
use Rattle.ticket_whole.specs.Known.{part_of}
use Rattle.ticket_whole.specs.Stretches.{stretch_of}
use Rattle.ticket_whole.proofs.stretch.is_reverse.Goals as goal

read : (o : Option Part) → option_map (λ (s : Stretch). s.reverse) (option_map stretch_of o) ≡ option_map (λ part. part.piece.reverse) o
read None = refl
read (Some part) = refl

told : (s : Option Stretch) (o : Option Part) → s ≡ option_map stretch_of o → option_map (λ (x : Stretch). x.reverse) s ≡ option_map (λ part. part.piece.reverse) o
told s o e = ap (option_map (λ (x : Stretch). x.reverse)) e ∙ read o

pub returns-in_err-stretch : goal.returns-in_err-stretch
returns-in_err-stretch c sale = c.from_residual.ensures ∙ told None (part_of c.args.book.now sale c.args.component.now) (sym c.in_err-stretch.was ∙ c.stretch_of.ensures.value sale)

pub returns : goal.returns
returns c sale = told (Some c.in_ok-stretch.stretch) (part_of c.args.book.now sale c.args.component.now) (sym c.in_ok-stretch.was ∙ c.stretch_of.ensures.value sale)
