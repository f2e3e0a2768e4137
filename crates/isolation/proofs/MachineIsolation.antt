-- The law of the abstract machine.
use Rattle.std.proofs.Common.{ℤ}
use Rattle.merging.specs.Order.{EitherOrder}
use Rattle.isolation.specs.Machine.{Among}
use Rattle.isolation.specs.MachineLaw.{MachineIsolated}
use Rattle.isolation.proofs.Runs.{kept, kept_on, stays_on}
use Rattle.isolation.proofs.ReadLaw.{reads, looks}
use Rattle.isolation.proofs.NoLostUpdate.{no_lost_update_holds}
use Rattle.isolation.proofs.Causality.{causal}
use Rattle.isolation.proofs.Shelves.{counted}
use Rattle.isolation.proofs.Agreement.{agree as agrees}

pub machine_isolated : {V : Type 0} (first : V) (step : V → ℤ → V) → EitherOrder step → MachineIsolated first step
machine_isolated first step order = record {
  lawful = λ regular pref n es s R run.
      let K = kept regular pref n run in
      record {
        reads = λ b t r was. reads regular pref n es s (Among R) K.invariant K.account b t r was;
        looks = λ b t r was o e q. looks regular pref n es s (Among R) K.invariant K.account b t r was step order o e q first;
        no_lost_update = no_lost_update_holds regular pref n es s (Among R) K.invariant K.account;
        causal = causal regular pref n es s (Among R) K.invariant K.account;
        counted = counted regular pref n es s (Among R) K.invariant K.account;
      };
  agree = λ regular pref n es es' s s' R R' run on b b' equal.
      let K = kept regular pref n run in
      let L = kept_on regular pref n K on in
      agrees regular pref n es es' s s' (Among R) (Among R') K.invariant K.account L.invariant L.account (stays_on regular pref n on) b b' equal first step order;
}
