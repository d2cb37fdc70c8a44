use Rattle.std.proofs.Common.{◌≡◌}
use Rattle.std.specs.Int.{w128, cast_signed}
use Rattle.std.proofs.lemmas.Int.{to_z-of_z}
use Rattle.byteorder.specs.Endian.{big_number}
use Rattle.ds_pack.proofs.Numbers.{dec_is}
use Rattle.ds_pack.proofs.value_bytes.dec_in.Goals as goal

pub returns : goal.returns
returns c =
    let is : c.read_i128.result ≡ cast_signed w128 (big_number 16 c.args.content.now) = c.read_i128.ensures in
    let made = dec_is c.args.content.now c.read_i128.result c.if-content-lt16.false c.type_inv.content is in
    rw (to_z-of_z w128 c.read_i128.result made.0) made
