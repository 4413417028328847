-- What a handle owns: the box of what it holds, or nothing.
use Rattle.std.specs.Prelude.{Option, None, Some}
use Rattle.std.specs.Box.Ownership.{box_owns}
use Rattle.std.specs.contracts.impls.GlobalAllocator.TheImpl.{ghosts}
use Rattle.std.specs.declared.alloc.Global.{Global}
use Rattle.shop_book.specs.contracts.handles.kept.Kept.{the_row}
use Rattle.shop_book.specs.declared.handles.kept.Kept.{Kept}
use base.Fml.{Fml, ftrue}
use denote.RawPtr.{Ptr}

-- the C library's heap
abbrev pub the_heap : Global
the_heap = record { memory = record { seal = tt } }

abbrev pub held_at : Option Kept → Ptr → Fml
held_at None p = ftrue
held_at (Some kept) p = box_owns (ghosts.dealloc_token the_heap) the_row p kept
