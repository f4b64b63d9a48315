-- What has left a buffer for a link, one write after another.
use Rattle.std.proofs.Common.{◌≡◌, ℕ, List, [], ◌++◌, take, drop, false, refl, ap, sym, ◌∙◌, append_assoc}
use Rattle.std.proofs.lemmas.List.{append-nil, take-append-drop}
use Rattle.gi_outside.proofs.Writing.{wrote_none, wrote_more, rose_since}
use Rattle.gi_outside.specs.World.{World, Wrote, WroteCut}
use Rattle.gi_outside.specs.Outbox.{Waiting, WroteAllBut, Stands}

pub all_at_start : (w : World) (text : List ℕ) → WroteAllBut w w text text
all_at_start w text = record { sent = []; wrote = wrote_none w; whole = refl }

pub all_more : (s v w : World) (n : ℕ) (rest left text : List ℕ) → WroteAllBut s v rest text → Wrote v w (take n rest) → left ≡ drop n rest → WroteAllBut s w left text
all_more s v w n rest left text h k e = record {
  sent = h.sent ++ take n rest;
  wrote = wrote_more s v w h.sent (take n rest) h.wrote k;
  whole = append_assoc h.sent (take n rest) left ∙ ap (λ xs. h.sent ++ (take n rest ++ xs)) e ∙ ap (λ xs. h.sent ++ xs) (take-append-drop n rest) ∙ h.whole;
}

-- the buffer is written whole
pub flushed : (s v w : World) (old : Waiting) (bytes text : List ℕ) → old.broken ≡ false → old.bytes ≡ bytes → Wrote v w bytes → Stands s v old text → WroteAllBut s w [] text
flushed s v w old bytes text sound same k h =
    let was = rw sound at h in
    record {
      sent = was.sent ++ bytes;
      wrote = wrote_more s v w was.sent bytes was.wrote k;
      whole = append-nil (was.sent ++ bytes) ∙ ap (λ xs. was.sent ++ xs) (sym same) ∙ was.whole;
    }

-- the buffer is written in part
pub flushed_cut : (s v w : World) (old : Waiting) (bytes text : List ℕ) → old.broken ≡ false → old.bytes ≡ bytes → WroteCut v w bytes → Stands s v old text → WroteCut s w text
flushed_cut s v w old bytes text sound same k h =
    let was = rw sound at h in
    record {
      sent = was.sent ++ k.sent;
      wrote = wrote_more s v w was.sent k.sent was.wrote k.wrote;
      cut = (k.cut.0, k.cut.1, append_assoc was.sent k.sent k.cut.0 ∙ ap (λ xs. was.sent ++ xs) (k.cut.2 ∙ sym same) ∙ was.whole);
      cause = rose_since s.failed_writes v.failed_writes w.failed_writes was.wrote.writes k.cause;
    }
