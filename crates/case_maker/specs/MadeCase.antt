-- The made case: what a seed and a size make.
use Rattle.std.specs.Prelude.{ℕ, List, codes}
use Rattle.case_maker.specs.Drawing.{Making, said, ◌before◌}
use Rattle.case_maker.specs.Tables.{places, flights, seats}
use Rattle.case_maker.specs.Filing.{filing}

-- a party of two goes out and comes back a week later
abbrev pub request : Making
request =
    said (codes "#request\n{\"best\":10,\"party\":2,\"sale\":\"2031-02-01\",\"slices\":[{\"days\":1,\"first\":\"2031-03-03\",\"from\":\"AAA\",\"to\":\"BBB\"},{\"days\":1,\"first\":\"2031-03-10\",\"from\":\"BBB\",\"to\":\"AAA\"}]}\n#end\n")

-- the sections of the case, each of the numbers that follow those of the section before
abbrev pub sections : ℕ → Making
sections size = places size before flights size before seats size before filing size before request

-- the case of a seed and of so many hubs
unfoldable pub made_case : ℕ → ℕ → List ℕ
made_case seed size = (sections size seed).text
