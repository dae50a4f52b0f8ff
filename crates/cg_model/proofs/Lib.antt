mod CommandRows
mod SessionRows
mod GoingBackRows
