use Rattle.std.proofs.Common.{vec_items, refl, arith, rules}
use Rattle.std.proofs.lemmas.Option.{slice_get_read}
use Rattle.arbiter.specs.Given.{model}
use Rattle.run.specs.Views.{state}
use Rattle.run.proofs.Asks.{asking_busy, posted, turned_away, unchanged}
use Rattle.run.proofs.Steps.{put_back, stays_same}
use Rattle.run.proofs.state.Run.post.Goals as goal

pub returns-in_err-map_err : goal.returns-in_err-map_err
returns-in_err-map_err g c =
    let run = c.args.self.now in
    let m = model g.A.Arbiter in
    let arbiter = c.index_mut.result.now in
    let next = c.post.new.self in
    record {
      moves = asking_busy m (state run) _ c.args.place c.args.bank _ (search rules)
          (put_back (state run) c.args.bank arbiter next c.index_mut.ensures.value (unchanged m c.args.place arbiter next c.post.result (search rules) c.post.ensures.state))
          (turned_away m (state run) c.args.place c.args.bank arbiter next c.post.result (search rules) (slice_get_read (vec_items run.arbiters) _ c.args.bank arbiter refl (omega (arith, c.requires, run.arbitrated)) c.index_mut.ensures.value) c.post.ensures.answer c.post.ensures.state);
      stays = stays_same run;
    }

pub returns : goal.returns
returns g c =
    let run = c.args.self.now in
    let arbiter = c.index_mut.result.now in
    record {
      moves = record {
        before = arbiter;
        after = c.post.new.self;
        stood = slice_get_read (vec_items run.arbiters) _ c.args.bank arbiter refl (omega (arith, c.requires, run.arbitrated)) c.index_mut.ensures.value;
        posts = posted (model g.A.Arbiter) c.args.place arbiter c.post.new.self c.post.result (search rules) c.post.ensures.state;
        leaves = c.happen.ensures.leaves;
      };
      stays = c.happen.ensures.stays;
    }
