-- What a link in memory was told to do, and how far it has come.
use Rattle.std.specs.Prelude.{◌≡◌, ℕ, ◌<◌, ◌⊎◌, min, List, [], ◌∷◌, drop, Contains}
use Rattle.gi_outside.specs.Link.{up}
use Rattle.gi_outside.specs.declared.link.Got.{Got}
use Rattle.gi_outside.specs.declared.link.Put.{Put}
use Rattle.gi_outside.specs.declared.link.Got.TheVariants as got
use Rattle.gi_outside.specs.declared.link.Put.TheVariants as put

pub record Script : Type 0 where
  -- how many reads and writes were asked for
  pub reads : ℕ
  pub writes : ℕ
  -- the most bytes of each successful read to come
  pub cuts : List ℕ
  -- the numbers of the reads and writes that fail
  pub bad_reads : List ℕ
  pub bad_writes : List ℕ
  -- how many calls have failed for want of memory
  pub starved : ℕ

-- how many bytes a read gives into so much room, where so many are left
abbrev pub read_size : List ℕ → ℕ → ℕ → ℕ
read_size [] room left = min room left
read_size (most ∷ cuts) room left = min (min room left) most

-- a read gives bytes, or End where none is left, or fails where its number is bad or, with bytes
-- left, for want of memory
abbrev pub FollowsRead : Got → ℕ → ℕ → Script → Script → Type 0
FollowsRead (got.Bytes n) room left old new = (¬ Contains old.bad_reads (up old.reads)) × (0 < left)
    × (n ≡ read_size old.cuts room left)
    × (new ≡ record old { reads = up old.reads; cuts = drop 1 old.cuts })
FollowsRead got.End room left old new = (¬ Contains old.bad_reads (up old.reads)) × (left ≡ 0)
    × (new ≡ record old { reads = up old.reads })
FollowsRead got.Failed room left old new =
    (Contains old.bad_reads (up old.reads) × (new ≡ record old { reads = up old.reads }))
    ⊎ ((¬ Contains old.bad_reads (up old.reads)) × (0 < left)
    × (new ≡ record old { reads = up old.reads; starved = up old.starved }))

-- a write takes the whole piece, or fails where its number is bad or for want of memory
abbrev pub FollowsWrite : Put → ℕ → Script → Script → Type 0
FollowsWrite (put.Took n) size old new = (¬ Contains old.bad_writes (up old.writes)) × (n ≡ size)
    × (new ≡ record old { writes = up old.writes })
FollowsWrite put.Failed size old new =
    (Contains old.bad_writes (up old.writes) × (new ≡ record old { writes = up old.writes }))
    ⊎ ((¬ Contains old.bad_writes (up old.writes))
    × (new ≡ record old { writes = up old.writes; starved = up old.starved }))

-- a count of failed reads, after a read
abbrev pub reads_failed : Got → ℕ → ℕ
reads_failed (got.Bytes n) before = before
reads_failed got.End before = before
reads_failed got.Failed before = up before

-- a count of failed writes, after a write
abbrev pub writes_failed : Put → ℕ → ℕ
writes_failed (put.Took n) before = before
writes_failed put.Failed before = up before
