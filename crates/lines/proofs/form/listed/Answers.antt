-- `lines::form::listed` meets its contract: the numbers read so far are in `numbers`.
-- Assumes nothing.
use Rattle.std.proofs.Common.{rules}
use Rattle.std.specs.Prelude.{None, ◌≡◌}
use Rattle.text.specs.Bytes.{bytes}
use Rattle.text.proofs.Finding.{word-there, no-word}
use Rattle.lines.proofs.Listing.{listing_full, listing-end, listing-broken, listing-more}
use Rattle.lines.proofs.form.listed.Goals as goal
use Rattle.lines.proofs.form.listed.Goals.{else-loop-rest-test, then-loop-rest-test+in-None-1}

-- no number is behind the space
pub returns-in_err-x : goal.returns-in_err-x
unfolding bytes
returns-in_err-x c =
    let space = word-there _ _ c.in-Some.digits c.in-Some.ensures.cases in
    rw c.from_residual.ensures (listing-broken _ c.loop-rest.invariant c.loop-rest-test.ensures space c.in_err-x.ensures)

-- one number more
pub loop-rest-preserved : goal.loop-rest-preserved
unfolding bytes
loop-rest-preserved c =
    let space = word-there _ _ c.in-Some.digits c.in-Some.ensures.cases in
    listing-more _ c.loop-rest.invariant c.loop-rest-test.ensures space c.in_ok-x.ensures c.push.ensures

-- there are as many as there can be, or no space is behind them
pub returns : goal.returns
unfolding bytes
returns c = elim c.loop-rest-test.branch [
  | else-loop-rest-test w ↦ listing_full _ c.loop-rest.invariant w.loop-rest-test.ensures
  | then-loop-rest-test+in-None-1 w ↦
      let nothing : w.strip_prefix.result ≡ None = search rules in
      listing-end _ c.loop-rest.invariant (no-word _ _ (rw nothing at w.strip_prefix.ensures.cases))
]
