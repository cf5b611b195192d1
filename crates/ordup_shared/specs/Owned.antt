-- What a pointer to a thing owns.
use Rattle.std.specs.Prelude.{Option, Some, None}
use base.Fml.{Fml, ftrue}
use denote.RattleType.{RattleType}
use denote.RawPtr.{Ptr}
use Rattle.std.specs.Box.Ownership.{box_owns}
use Rattle.std.specs.declared.alloc.Global.{Global}
use Rattle.std.specs.contracts.impls.GlobalAllocator.TheImpl.{ghosts}

-- the thing and the right to free it, where there is one
abbrev pub owns_held : Global → (R : RattleType) → Ptr → Option R.Denot → Fml
owns_held alloc R at None = ftrue
owns_held alloc R at (Some x) = box_owns (ghosts.dealloc_token alloc) R at x
