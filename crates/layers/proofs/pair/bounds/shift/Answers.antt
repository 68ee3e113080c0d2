use Rattle.std.proofs.Common.{◌≡◌, ◌-◌, ◌++◌, drop, replicate, ap, ◌∙◌, arith}
use Rattle.std.proofs.lemmas.List.{drop-replicate, take_rest}
use Rattle.layers.proofs.pair.bounds.shift.Goals as goal

pub returns : goal.returns
returns c =
    let n = c.args.n in
    let xs = c.args.counts.now in
    let e : 32 - (32 - n) ≡ n = omega arith in
    let moved : c.copy_from_slice.new.self ≡ drop n xs = c.copy_from_slice.ensures.after ∙ take_rest xs n in
    let rest : drop (32 - n) (replicate 32 0) ≡ replicate n 0 = drop-replicate (32 - n) 32 0 ∙ ap (λ k. replicate k 0) e in
    ap (λ ys. ys ++ drop (32 - n) (replicate 32 0)) moved ∙ ap (λ zs. drop n xs ++ zs) rest
