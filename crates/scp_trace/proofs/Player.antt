-- What one watch notes by what another one does, for who watches a run by this crate.
pub use Rattle.scp_line.proofs.Runs.{run_as, run_from, cut_as}
