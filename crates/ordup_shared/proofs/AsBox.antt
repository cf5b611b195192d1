-- What is held and the parts of a box own what a box at the same types owns.
use mir.Syntax.{impl, tnil, dnil}
use mathlib.Core.List.{[]}
use denote.Signature.{Slot, plain}
use Rattle.std.proofs.BoxSteps.Form.{Bx}
use Rattle.std.specs.contracts.alloc.Global as Heap
use Rattle.std.specs.contracts.impls.GlobalAllocator.TheImpl.{ghosts, dict}
use Rattle.std.proofs.alloc.Global.TheLaws as heap
use Rattle.ordup_shared.specs.contracts.thing.Thing as Thing
use Rattle.ordup_shared.proofs.thing.Thing.TheLaws as thing
use Rattle.ordup_shared.specs.contracts.parts.Parts as Parts
use Rattle.ordup_shared.specs.contracts.held.Held as Held

abbrev pub E : Bx
E = record { row = Thing.the_row; laws = thing.the_row_laws; al = record { row = Heap.the_row; laws = heap.the_row_laws; g = ghosts; d = dict; drops = impl [] tnil dnil } }

abbrev pub FromParts : Slot 0
FromParts = plain (λ _. Parts.the_row Thing.the_row Heap.the_row ghosts)

abbrev pub FromHeld : Slot 0
FromHeld = plain (λ _. Held.the_row)
