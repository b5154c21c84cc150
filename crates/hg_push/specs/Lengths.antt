-- How long a reply can be.
use Rattle.std.specs.Prelude.{ℕ}

-- the most parts that a client may put for a push
abbrev pub most_parts : ℕ
most_parts = 10000

-- The most bytes of the reply to a push of at most so many parts. A run leaves at most one reply for each
-- part, and none has a payload: that makes 10,000 parts of at most 261,390 bytes each (4 of a header's size,
-- 261,382 of the greatest header, 4 of the closing size), and 12 bytes around them. The sum is less than
-- 2^32, which is 4,294,967,296.
abbrev pub greatest_reply : ℕ
greatest_reply = 2613900012
