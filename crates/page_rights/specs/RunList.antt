-- Runs of pages, seen as the rights of all pages.
use Rattle.std.specs.Prelude.{◌≡◌, ℕ, ◌+◌, ◌<◌, ◌≤◌, ◌^◌, Bool, not, ◌&&◌, List, [], ◌∷◌, ◌++◌, take, replicate}
use Rattle.page_rights.specs.declared.rights.Rights.{Rights}
use Rattle.page_rights.specs.declared.rights.Change.{Change}
use Rattle.page_rights.specs.declared.rights.Change.TheVariants.{Keep, Lift}
use Rattle.page_rights.specs.declared.rights.Sought.{Sought}
use Rattle.page_rights.specs.declared.rights.Sought.TheVariants.{Below, Other}
use Rattle.page_rights.specs.declared.parts.Run.{Run}
use Rattle.page_rights.specs.declared.span.Span.{Span}
use Rattle.page_rights.specs.PageRights.{none_granted, reaches, lifted, right_of_page}

-- the rights of the pages of runs, one by one
abbrev pub spread : List Run → List Rights
spread [] = []
spread (run ∷ rest) = replicate run.count run.rights ++ spread rest

-- those of all pages; pages after the last run have none
abbrev pub rights_of_runs : List Run → List Rights
rights_of_runs runs = take (2 ^ 20) (spread runs ++ none_granted)

-- the rights of a page that is copied
abbrev pub changed : Change → Rights → Rights
changed Keep rights = rights
changed Lift rights = lifted rights

-- rights that are looked for
abbrev pub is_sought : Sought → Rights → Bool
is_sought (Below least) rights = not (reaches rights least)
is_sought (Other to) rights = not (reaches rights to && reaches to rights)

-- the pages of a span have its right
abbrev pub IsSpan : List Rights → Span → Type 0
IsSpan pages span = (page : ℕ) → span.first ≤ page → page < span.first + span.count → right_of_page pages page ≡ span.rights
