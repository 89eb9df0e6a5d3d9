-- What a source and a sink in memory do at the next call.
use Rattle.std.specs.Prelude.{◌≡◌, ℕ, ◌-◌, ◌^◌, List, [], drop, take, min, vec_len, Bool, ◌&&◌, not, nat_eq, nat_lt, Option, Some}
use Rattle.ps_fakes.specs.declared.source.MemSource.{MemSource}
use Rattle.ps_fakes.specs.declared.sink.MemSink.{MemSink}

-- the bytes still to come
abbrev pub left_of : MemSource → Option (List ℕ)
left_of source = Some (drop source.at source.bytes.items)

-- how many bytes a read gives into so much room: up to what the source has, may give at once, and gives in all
abbrev pub given_into : MemSource → ℕ → ℕ
given_into source room = min (min room source.most) (min (vec_len source.bytes - source.at) (2 ^ 40 - source.at))

-- nothing can be given, though bytes are left and there is room
abbrev pub is_stuck : MemSource → ℕ → Bool
is_stuck source room = nat_eq (given_into source room) 0 && (nat_lt source.at (vec_len source.bytes) && not (nat_eq room 0))

-- what was taken, and what of it was sent on
abbrev pub taken_by : MemSink → Option (List ℕ)
taken_by sink = Some sink.bytes.items

abbrev pub sent_by : MemSink → Option (List ℕ)
sent_by sink = Some (take sink.flushed sink.bytes.items)

-- how many bytes of so many a write takes
abbrev pub taken_of : MemSink → ℕ → ℕ
taken_of sink size = min size sink.most

-- nothing can be taken of a piece that isn't empty
abbrev pub is_full : MemSink → ℕ → Bool
is_full sink size = nat_eq (taken_of sink size) 0 && not (nat_eq size 0)

-- no call of the sink is to fail, and it takes whole pieces
pub record NeverFails (sink : MemSink) : Type 0 where
  pub fails : sink.plan.fails.items ≡ []
  pub most : sink.most ≡ 2 ^ 64 - 1
