use Rattle.name_text.proofs.TextLemmas.{place_again, carrier_again, basis_again, class_again}
use Rattle.name_text.proofs.texts.names_read_again.Goals as goal

pub returns : goal.returns
returns c = record { places = place_again; carriers = carrier_again; bases = basis_again; classes = class_again }
