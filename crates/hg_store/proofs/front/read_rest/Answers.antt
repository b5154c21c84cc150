use Rattle.std.proofs.Common.{◌≡◌, arith, ap, length, length-append}
use Rattle.hg_store.proofs.OneByOne.{end_more}
use Rattle.hg_store.proofs.front.read_rest.Goals as goal

pub returns-in-Some-clause-ends : goal.returns-in-Some-clause-ends
returns-in-Some-clause-ends g c = λ ends.
    let read = c.in_ok-read_on.ensures.read in
    end_more c.args.tail.now.items read.more c.read_on.new.bytes.items ends read.appended
    (λ none.
    let before : c.len-before.result ≡ 0 = omega (arith, c.len-before.ensures, none) in
    omega (
      arith,
      none,
      before,
      c.room_behind-room.ensures before,
      c.len.ensures,
      ap length read.appended,
      length-append c.args.tail.now.items read.more,
      c.if-len-before.false,
    ))
