use Rattle.std.proofs.Common.{arith, ◌≡◌, ◌∙◌, ap, [], ◌∷◌, length, length-append}
use Rattle.std.specs.Prelude.{slice_index}
use Rattle.tpcc_draws.specs.Draws.{answers, drawn_bytes}
use Rattle.tpcc_draws.proofs.Text.{drawn_bytes-more, drawn_bytes-none, drawn_text-whole}
use Rattle.tpcc_draws.proofs.stream.Stream.text.Goals as goal

pub loop-init : goal.loop-init
loop-init g c = record {
  drawn = (λ i. (c.empty-text.ensures.text i, answers c.between-size.new.self)) ∙ drawn_bytes-none c.args.alphabet.now (answers c.between-size.new.self);
  count = ap length c.empty-text.ensures.text;
}

pub loop-preserved : goal.loop-preserved
loop-preserved g c =
    record {
      drawn =
          (λ i. (c.push.ensures.pushed i, answers c.between-place.new.self))
          ∙ drawn_bytes-more c.args.alphabet.now c.loop.counter (answers c.between-size.new.self) c.loop.text (answers c.loop.self) (answers c.between-place.new.self) c.between-place.result c.loop.invariant.drawn c.between-place.ensures.drawn;
      count = ap length c.push.ensures.pushed ∙ omega (arith, length-append c.loop.text (slice_index c.args.alphabet.now c.between-place.result ∷ []));
    }

pub returns : goal.returns
returns g c =
    let whole : c.loop.counter ≡ c.between-size.result = omega arith in
    record {
      drawn =
          drawn_text-whole c.args.alphabet.now c.args.least c.args.most (answers c.args.self.now) (answers c.between-size.new.self) (answers c.loop.self) c.between-size.result c.loop.text c.between-size.ensures.drawn
          (c.loop.invariant.drawn ∙ (λ i. drawn_bytes c.args.alphabet.now (whole i) (answers c.between-size.new.self)));
      least = omega (arith, whole, c.loop.invariant.count, c.between-size.ensures.least);
      most = omega (arith, whole, c.loop.invariant.count, c.between-size.ensures.most);
    }
