mod Aside
mod CommandsOnLine
mod OneLine
mod Played
mod Told
