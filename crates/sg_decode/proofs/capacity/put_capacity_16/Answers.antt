use Rattle.std.proofs.Common.{◌≡◌, [], refl}
use Rattle.sg_decode.specs.Items.{body_text, shown}
use Rattle.sg_decode.specs.Capacity.{capacity_16}
use Rattle.sg_decode.proofs.DecoderLemmas.{all_header}
use Rattle.sg_decode.proofs.capacity.put_capacity_16.Goals as goal

pub returns : goal.returns
unfolding shown
returns g c =
    let nothing : body_text capacity_16 c.args.bytes.now ≡ [] = refl in
    all_header capacity_16 _ _ _ nothing c.show_lines.ensures.text
