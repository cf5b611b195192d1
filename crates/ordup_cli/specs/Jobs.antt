-- What the jobs of the program do: what was read and written, what was noted on the faults, and how the job ended.
use Rattle.std.specs.Prelude.{◌≡◌, string_bytes}
use Rattle.ordup_command_line.specs.declared.command_line.Job.{Job}
use Rattle.ordup_command_line.specs.declared.command_line.Job.TheVariants as job
use Rattle.ordup_script.specs.Streams.{Bytes, Streams}
use Rattle.ordup_faults.specs.Faults.{Outcome}
use Rattle.ordup_runs.specs.Answers.{Answers}
use Rattle.ordup_runs.specs.Explained.{AnswersExplained, AnswersStrictly}
use Rattle.ordup_runs.specs.Records.{Records}
use Rattle.ordup_verdicts.specs.Verdicts.{Checks}
use Rattle.ordup_verdicts.specs.Lags.{Lags}
use Rattle.ordup_verdicts.specs.Series.{ChecksSeries, ChecksSites}
use Rattle.ordup_verdicts.specs.SeriesLags.{LagsOfSeries}
use Rattle.ordup_next.specs.Successors.{DeclaresSuccessor}
use Rattle.ordup_next.specs.Ends.{DeclaresEnd}
use Rattle.ordup_cli.specs.Plans.{RunsPlan}

-- the job was done over these streams, and ended so; only `run --explain` noted something
abbrev pub Does : Job → Streams → Bytes → Bytes → Outcome → Type 0
Does job.Run s noted notes outcome = Answers s outcome × (notes ≡ noted)
Does job.RunStrictly s noted notes outcome = AnswersStrictly s outcome × (notes ≡ noted)
Does (job.RunExplained strictly) s noted notes outcome = AnswersExplained strictly s noted notes outcome
Does (job.Record site) s noted notes outcome = Records (string_bytes site) s outcome × (notes ≡ noted)
Does job.Check s noted notes outcome = Checks s.had s.old s.new outcome × (notes ≡ noted)
Does job.CheckSeries s noted notes outcome = ChecksSeries s.had s.old s.new outcome × (notes ≡ noted)
Does job.CheckSites s noted notes outcome = ChecksSites s.had s.old s.new outcome × (notes ≡ noted)
Does job.LagSeries s noted notes outcome = LagsOfSeries s.had s.old s.new outcome × (notes ≡ noted)
Does job.Lag s noted notes outcome = Lags s.had s.old s.new outcome × (notes ≡ noted)
Does job.Next s noted notes outcome = DeclaresSuccessor s outcome × (notes ≡ noted)
Does job.NextOfRecord s noted notes outcome = DeclaresEnd s.had s.old s.new outcome × (notes ≡ noted)
Does (job.Threads callers) s noted notes outcome = RunsPlan s outcome × (notes ≡ noted)
