-- The numbers of all limits and ranges, each written out once.
use Rattle.std.specs.Prelude.{◌≡◌}
use Rattle.topology.specs.declared.limits.TheConstants as limit

-- the highest of each count
pub record CountsEndAt : Type 0 where
  pub nodes : limit.MOST_NODES ≡ 64
  pub consolidators : limit.MOST_CONSOLIDATORS ≡ 7
  pub links : limit.MOST_LINKS ≡ 512
  pub prefixes : limit.MOST_PREFIXES ≡ 256
  pub bytes : limit.MOST_BYTES ≡ 16777216
  pub events : limit.MOST_EVENTS ≡ 1000000
  pub triggers : limit.MOST_TRIGGERS ≡ 8192
  pub control : limit.MOST_CONTROL ≡ 16384
  pub packets : limit.MOST_PACKETS ≡ 4096
  pub frames : limit.MOST_FRAMES ≡ 1000000
  pub members : limit.MOST_MEMBERS ≡ 7
  pub times : limit.MOST_TIMES ≡ 1000000
  pub epochs : limit.MOST_EPOCHS ≡ 32
  pub entries : limit.MOST_ENTRIES ≡ 2048
  pub updates : limit.MOST_UPDATES ≡ 16384
  pub marks : limit.MOST_MARKS ≡ 65536
  pub pending : limit.MOST_PENDING ≡ 16128
  pub sessions : limit.MOST_SESSIONS ≡ 65535
  pub trail : limit.MOST_TRAIL ≡ 64

-- the highest of each number that may be named
pub record NumbersEndAt : Type 0 where
  pub load : limit.HIGHEST_LOAD ≡ 4294967295
  pub node : limit.HIGHEST_NODE ≡ 65535
  pub preference : limit.HIGHEST_PREFERENCE ≡ 1000000
  pub hops : limit.HIGHEST_HOPS ≡ 65535
  pub message : limit.HIGHEST_MESSAGE ≡ 1000000
  pub packet : limit.HIGHEST_PACKET ≡ 4294967295
  pub epoch : limit.HIGHEST_EPOCH ≡ 32
  pub value : limit.HIGHEST_VALUE ≡ 4294967295
