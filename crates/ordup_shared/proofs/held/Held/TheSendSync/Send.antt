-- What is held crosses threads as the thing does.
use Rattle.std.specs.Prelude.{Option, Some, None}
use mir.Raw.{raw}
use base.Shift.{Keyless}
use base.Fraction.{full_share}
use denote.Exit.{Exit, unchanged, leaves, hidden, under}
use denote.Memory.{lone}
use denote.RattleType.{RattleType}
use denote.RawPtr.{Ptr, block_ptr, null_ptr, lies_at}
use denote.Struct.Struct.{exits_of}
use denote.Struct.Owning.{shape, fields, to}
use denote.Param.Send.{IsSend, AllSend, Quiet, owning_send, part_keyless, struct_send, sendable}
use Rattle.std.specs.declared.alloc.Global.{Global}
use Rattle.std.proofs.Crossing as heap
use Rattle.ordup_shared.specs.Owned.{owns_held}
use Rattle.ordup_shared.specs.contracts.thing.Thing as Thing
use Rattle.ordup_shared.proofs.thing.Thing.TheSendSync.{the_send as thing}
use Rattle.ordup_shared.specs.contracts.held.Held.{the_row, the_type}

quiet : {D X : Type 0} (to : D → X) (e : Exit X) → Quiet e → Quiet (hidden (under to e))
quiet to unchanged q = λ x w. tt
quiet to (leaves L l S s r₀) q = λ d. q (to d)

lies : (R : RattleType) → IsSend R → (p : Ptr) (x : R.Denot) → Keyless (lies_at R full_share p x)
lies R s (block_ptr b o) x = part_keyless R s full_share x b o
lies R s null_ptr x = tt

owned : (alloc : Global) (p : Ptr) (held : Option Thing.the_row.Denot) → Keyless (owns_held alloc Thing.the_row p held)
owned alloc p None = tt
owned alloc p (Some x) = (lies Thing.the_row thing p x, heap.frees.frees alloc (raw (lone Thing.the_row.mir)) p)

pub send : IsSend the_row
send =
    let all : AllSend (fields the_type) = (search sendable, (search sendable depth 20, tt)) in
    owning_send the_type all (λ d. owned d.alloc d.at d.thing)
    (λ k. quiet (to the_type) (exits_of k (fields the_type)) ((struct_send (shape the_type) all).leaving k))
