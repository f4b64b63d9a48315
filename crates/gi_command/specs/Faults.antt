-- What an exit status means, for people.
use Rattle.std.specs.Prelude.{ℕ, ◌==◌, [], codes, if◌then◌else◌}
use Rattle.clap.specs.Walk.{Text}

-- the text of each fault, and none for any other status
unfoldable pub fault_text : ℕ → Text
fault_text status = if status == 1 then codes "input refused"
    else if status == 2 then codes "unknown command"
    else if status == 3 then codes "out of memory"
    else if status == 4 then codes "read failed"
    else if status == 5 then codes "write failed"
    else if status == 6 then codes "door failed"
    else if status == 7 then codes "peer broke the protocol"
    else if status == 8 then codes "too much"
    else if status == 9 then codes "room ended" else []
