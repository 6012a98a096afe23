-- The text that a draft was read from, and that what it says may stand in a report.
use Rattle.std.proofs.Common.{◌≡◌, ℕ, ◌+◌, ◌^◌, ◌<◌, ◌≤◌, true, nat_le, ◌&&◌, List, [], ◌∷◌, ◌++◌, length}
use Rattle.std.specs.Prelude.{Option, Some, None, decimal, codes, flat_map}
use Rattle.std.specs.List.{list_all}
use Rattle.decomposition.specs.Graph.{is_run, is_list_before}
use Rattle.decomposition.specs.Answer.{comes_before, is_ordered}
use Rattle.graph_text.specs.Labels.{LabelLists}
use Rattle.report_terms.specs.declared.report.Mark.TheVariants.{Bounds}
use Rattle.report_terms.specs.declared.report.Trail.{Trail}
use Rattle.report_terms.specs.declared.report.Solved.{Solved}
use Rattle.report_reading.specs.declared.draft.Draft.{Draft}
use Rattle.report_reading.specs.declared.draft.Place.{Place}
use Rattle.report_reading.specs.declared.draft.Place.TheVariants.{Graph, Model, Third, Lower, Upper, PathOrCert, Item, TrailHead, TrailToken, SafeOrEnd, Run, End, Nothing}
use Rattle.report_reading.specs.Names.{graph_at}
use Rattle.report_terms.specs.NetFacts.{is_mode}
use Rattle.report_reading.specs.ReportText.{line, number_or_none, graph_line, model_line, mark_word, path_line, run_line, token_line, cert_text, trail_text, marks_text, body_text, fits, fits_or_none, is_name, is_path_entry, is_cert, has_trail, is_regular_body}
use Rattle.report_reading.specs.BadLines.{drafted_body}
use Rattle.report_reading.proofs.CertTexts.{trail_head, cert_so_far, IsCertPart, IsTrailPart}

-- the first two lines, and the line of the mark
abbrev pub two_lines : Draft → List ℕ
two_lines d = graph_line d.index d.name ++ model_line d.mode

abbrev pub mark_line : Draft → List ℕ
mark_line d = line (codes "mark" ∷ mark_word d.solved.mark ∷ [])

-- what was found, up to the paths, to the certificate, and to the trail
abbrev pub to_paths : LabelLists → Solved → List ℕ
to_paths labels s = marks_text s ++ flat_map (path_line labels) s.paths

abbrev pub to_cert : LabelLists → Solved → List ℕ
to_cert labels s = to_paths labels s ++ cert_text labels s.cert

abbrev pub to_trail : LabelLists → Solved → List ℕ
to_trail labels s = to_cert labels s ++ trail_text s.trail

-- a trail and runs of which so many are still to come
abbrev pub trail_so_far : Option Trail → ℕ → List ℕ
trail_so_far None n = []
trail_so_far (Some t) n = line (codes "trail" ∷ trail_head t n) ++ flat_map token_line t.tokens

abbrev pub runs_so_far : LabelLists → Option (List (List ℕ)) → ℕ → List ℕ
runs_so_far labels None n = []
runs_so_far labels (Some runs) n = line (codes "safe" ∷ decimal (length runs + n) ∷ []) ++ flat_map (run_line labels) runs

-- the text before a place
abbrev pub text_at : LabelLists → Draft → Place → List ℕ
text_at labels d Graph = []
text_at labels d Model = graph_line d.index d.name
text_at labels d Third = two_lines d
text_at labels d Lower = two_lines d ++ mark_line d
text_at labels d Upper = two_lines d ++ (mark_line d ++ line (codes "lower" ∷ number_or_none d.solved.lower ∷ []))
text_at labels d PathOrCert = two_lines d ++ to_paths labels d.solved
text_at labels d (Item n) = two_lines d ++ (to_paths labels d.solved ++ cert_so_far labels d.solved.cert n)
text_at labels d TrailHead = two_lines d ++ to_cert labels d.solved
text_at labels d (TrailToken n) = two_lines d ++ (to_cert labels d.solved ++ trail_so_far d.solved.trail n)
text_at labels d SafeOrEnd = two_lines d ++ to_trail labels d.solved
text_at labels d (Run n) = two_lines d ++ (to_trail labels d.solved ++ runs_so_far labels d.solved.safe n)
text_at labels d End = two_lines d ++ body_text labels (drafted_body d.refusal d.solved)
text_at labels d Nothing = (two_lines d ++ body_text labels (drafted_body d.refusal d.solved)) ++ line (codes "end" ∷ [])

-- nothing of a list was read, nor a refusal
pub record IsUnread (d : Draft) : Type 0 where
  pub no_refusal : d.refusal ≡ None
  pub no_paths : d.solved.paths ≡ []
  pub no_trail : d.solved.trail ≡ None
  pub no_safe : d.solved.safe ≡ None

-- the number and the name of the block, and then the model, may stand in a report
pub record IsHeaded (d : Draft) : Type 0 where
  pub index : (nat_le 1 d.index && fits d.index) ≡ true
  pub name : is_name d.name ≡ true

pub record IsModelled (d : Draft) : Type 0 where
  pub headed : IsHeaded d
  pub mode : is_mode d.mode ≡ true

-- the same of the bounds and the paths
pub record IsPathed (labels : LabelLists) (d : Draft) : Type 0 where
  pub modelled : IsModelled d
  pub no_refusal : d.refusal ≡ None
  pub lower : fits_or_none d.solved.lower ≡ true
  pub upper : fits_or_none d.solved.upper ≡ true
  pub paths : list_all (is_path_entry labels) d.solved.paths ≡ true
  pub order : is_ordered comes_before d.solved.paths ≡ true

-- the same of the certificate, and then of the trail
pub record IsCertified (labels : LabelLists) (d : Draft) : Type 0 where
  pub pathed : IsPathed labels d
  pub cert : is_cert labels d.solved.cert ≡ true
  pub no_safe : d.solved.safe ≡ None

pub record IsTrailed (labels : LabelLists) (d : Draft) : Type 0 where
  pub pathed : IsPathed labels d
  pub cert : is_cert labels d.solved.cert ≡ true
  pub trail : has_trail d.solved.mark d.solved.trail ≡ true

-- a trail of which so many tokens are still to come, at least one
pub record IsTrailOpen (d : Draft) (n : ℕ) : Type 0 where
  pub trail : Trail
  pub trail_is : d.solved.trail ≡ Some trail
  pub part : IsTrailPart trail n
  pub left : 1 ≤ n

-- runs of which so many are still to come
pub record AreRunsPart (labels : LabelLists) (runs : List (List ℕ)) (n : ℕ) : Type 0 where
  pub pass : list_all (is_run (graph_at labels)) runs ≡ true
  pub rise : is_ordered is_list_before runs ≡ true
  pub few : length runs + n < 2 ^ 64

pub record AreRunsOpen (labels : LabelLists) (d : Draft) (n : ℕ) : Type 0 where
  pub runs : List (List ℕ)
  pub runs_are : d.solved.safe ≡ Some runs
  pub part : AreRunsPart labels runs n
  pub left : 1 ≤ n

-- a certificate of which so many items are still to come
pub record IsCertOpen (labels : LabelLists) (d : Draft) (n : ℕ) : Type 0 where
  pub pathed : IsPathed labels d
  pub part : IsCertPart labels d.solved.cert n
  pub no_trail : d.solved.trail ≡ None
  pub no_safe : d.solved.safe ≡ None
  pub left : 1 ≤ n

-- before a path or the certificate
pub record IsBeforeCert (labels : LabelLists) (d : Draft) : Type 0 where
  pub pathed : IsPathed labels d
  pub no_trail : d.solved.trail ≡ None
  pub no_safe : d.solved.safe ≡ None

-- a whole body
pub record IsDone (labels : LabelLists) (d : Draft) : Type 0 where
  pub modelled : IsModelled d
  pub body : is_regular_body labels (drafted_body d.refusal d.solved) ≡ true

-- what is known of a draft at a place
abbrev pub IsFitAt : LabelLists → Draft → Place → Type 0
IsFitAt labels d Graph = IsUnread d
IsFitAt labels d Model = IsUnread d × IsHeaded d
IsFitAt labels d Third = IsUnread d × IsModelled d
IsFitAt labels d Lower = IsUnread d × IsModelled d
IsFitAt labels d Upper = IsUnread d × IsModelled d × (fits_or_none d.solved.lower ≡ true)
IsFitAt labels d PathOrCert = IsBeforeCert labels d
IsFitAt labels d (Item n) = IsCertOpen labels d n
IsFitAt labels d TrailHead = IsCertified labels d × (d.solved.mark ≡ Bounds)
IsFitAt labels d (TrailToken n) = IsCertified labels d × (d.solved.mark ≡ Bounds) × IsTrailOpen d n
IsFitAt labels d SafeOrEnd = IsTrailed labels d × (d.solved.safe ≡ None)
IsFitAt labels d (Run n) = IsTrailed labels d × AreRunsOpen labels d n
IsFitAt labels d End = IsDone labels d
IsFitAt labels d Nothing = IsDone labels d

-- a draft was read from a text
pub record ReadsTo (labels : LabelLists) (text : List ℕ) (d : Draft) : Type 0 where
  pub text_is : text ≡ text_at labels d d.place
  pub fit : IsFitAt labels d d.place
