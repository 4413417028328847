-- The faults and the runs of a graph, as those of a search and of its certificate.
use Rattle.certificate.specs.declared.parts.CertAnswer.{CertAnswer}
use Rattle.pricing_graph.specs.declared.drawn.DrawnRun.{DrawnRun}
use Rattle.pricing_graph.specs.declared.fault.GraphFault.{GraphFault}
use Rattle.pricing_graph.specs.declared.fault.GraphFault.TheVariants.{TooLarge as TooLargeGraph, Mem as NoMemory}
use Rattle.search_core.specs.declared.outcome.SearchFault.{SearchFault}
use Rattle.search_core.specs.declared.outcome.SearchFault.TheVariants.{TooLarge, Mem}

abbrev pub fault_as : GraphFault → SearchFault
fault_as (TooLargeGraph budget) = TooLarge
fault_as NoMemory = Mem

abbrev pub answer_as : DrawnRun → CertAnswer
answer_as run = record { price = run.price; moves = run.moves }
