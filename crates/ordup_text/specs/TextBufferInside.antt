-- A text in the fields of a `TextBuffer`.
use Rattle.std.specs.Prelude.{◌-◌, ◌≤◌, length, take}
use Rattle.ordup_text.specs.TextBuffers.{BufferedText}
use Rattle.ordup_text.specs.declared.text_buffer.TextBuffer.TheInside.{Inside}

module _ {A : Type 0} where
  -- the text, and the spare capacity behind it
  abbrev pub buffered : Inside A → BufferedText
  buffered b = record { text = take b.len b.bytes.items; spare = length b.bytes.items - b.len }

  -- the text lies within what there is
  abbrev pub IsTextBuffer : Inside A → Type 0
  IsTextBuffer b = b.len ≤ length b.bytes.items
